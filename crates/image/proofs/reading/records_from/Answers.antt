use Rattle.std.proofs.Common.{◌≡◌, ◌≤◌, length, ap, sym, ◌∙◌, arith, true, Some}
use Rattle.base.specs.PickLaws.{pick_true}
use Rattle.image.specs.Layout.{length_in, version_of}
use Rattle.image.specs.PlaceLaws.{within}
use Rattle.image.specs.Read.{seats_in, seats_good, records_from}
use Rattle.image.specs.ReadLaws.{bad_turn, seat_turn, good_turn, none_of}
use Rattle.image.proofs.reading.records_from.Goals as goal

pub slice_bounds-get-count : goal.slice_bounds-get-count
slice_bounds-get-count c =
    let long : length_in (version_of c.args.p.now) ≤ length c.args.p.now = omega (arith, c.requires.long, ap length_in c.requires.own) in
    within c.args.p.now c.args.version c.place_in-place.result c.loop-k.k c.requires.own c.place_in-place.ensures c.loop-k-test.true long

pub slice_bounds-get-start : goal.slice_bounds-get-start
slice_bounds-get-start c =
    let long : length_in (version_of c.args.p.now) ≤ length c.args.p.now = omega (arith, c.requires.long, ap length_in c.requires.own) in
    omega (arith, within c.args.p.now c.args.version c.place_in-place.result c.loop-k.k c.requires.own c.place_in-place.ensures c.loop-k-test.true long)

pub returns-in_err-seat : goal.returns-in_err-seat
returns-in_err-seat c =
    c.from_residual.ensures
    ∙ none_of c.args.p.now c.loop-k.k c.loop-k-test.true
    (bad_turn c.args.p.now c.loop-k.k c.args.version c.place_in-place.result c.requires.own c.place_in-place.ensures c.in_err-seat.ensures)

pub loop-k-preserved : goal.loop-k-preserved
loop-k-preserved c =
    let p = c.args.p.now in (
      seat_turn p c.loop-k.k c.args.version c.place_in-place.result c.requires.own c.place_in-place.ensures (Some c.in_ok-seat.seat) c.in_ok-seat.ensures _
          c.loop-k.seats c.loop-k.invariant.0,
      sym (good_turn p c.loop-k.k c.args.version c.place_in-place.result c.requires.own c.place_in-place.ensures (Some c.in_ok-seat.seat)
          c.in_ok-seat.ensures true (sym c.loop-k.invariant.1)),
    )

pub returns : goal.returns
unfolding records_from seats_in seats_good
returns c =
    let all : c.loop-k.k ≡ 8 = omega arith in
    let seats : _ = rw all at c.loop-k.invariant.0 in
    let good : _ = rw all at c.loop-k.invariant.1 in
    ap Some seats ∙ sym (pick_true _ _ _ good)
