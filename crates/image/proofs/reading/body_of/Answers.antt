use Rattle.std.proofs.Common.{ap, ap₂, sym, ◌∙◌, ◌&&◌, arith, Some, take, length, length-drop}
use Rattle.channel_image.specs.Places.{at}
use Rattle.controller.specs.Valid.{latches_high}
use Rattle.seat_image.specs.ReadLaws.{lent_to_end}
use Rattle.image.specs.BodyLaws.{body_none, body_bad, body_good}
use Rattle.image.specs.PlaceLaws.{front_inside}
use Rattle.image.specs.Read.{controller_from}
use Rattle.image.specs.Refusals.{controller_in_range}
use Rattle.image.proofs.reading.body_of.Goals as goal

pub returns-in_err-seats : goal.returns-in_err-seats
returns-in_err-seats c = c.from_residual.ensures ∙ sym (body_none c.args.p.now (sym c.in_err-seats.ensures))

pub slice_bounds-first_chunk-count : goal.slice_bounds-first_chunk-count
slice_bounds-first_chunk-count c = omega (arith, front_inside c.args.version 8, c.requires.long)

pub slice_bounds-first_chunk-start : goal.slice_bounds-first_chunk-start
slice_bounds-first_chunk-start c = omega (arith, front_inside c.args.version 8, c.requires.long)

pub returns-in_err-block : goal.returns-in_err-block
returns-in_err-block c =
    let p = c.args.p.now in
    absurd (omega (arith, c.in_err-block.ensures.cases, ap length (lent_to_end 5 p), length-drop 5 p, front_inside c.args.version 8, c.requires.long))

pub returns-then-controller_in_range-latches_high : goal.returns-then-controller_in_range-latches_high
returns-then-controller_in_range-latches_high c =
    let p = c.args.p.now in
    let block = c.in_ok-block.ensures.cases.same ∙ ap (take 11) (lent_to_end 5 p) in
    let levels = c.lines_of-levels.ensures in
    let test =
    ap₂ ◌&&◌ (c.controller_in_range.ensures ∙ ap controller_in_range block)
    (c.latches_high.ensures ∙ (λ i. latches_high (record { levels = levels i; latches = at (block i) 10 })))
    in
    (λ i. Some (record { seats = c.in_ok-seats.seats; controller = (c.controller_from-controller.ensures ∙ ap₂ controller_from block levels) i }))
    ∙ sym (body_good p c.in_ok-seats.seats (sym c.in_ok-seats.ensures) (sym test ∙ c.if-controller_in_range-latches_high.true))

pub returns-else-controller_in_range-latches_high : goal.returns-else-controller_in_range-latches_high
returns-else-controller_in_range-latches_high c =
    let p = c.args.p.now in
    let block = c.in_ok-block.ensures.cases.same ∙ ap (take 11) (lent_to_end 5 p) in
    let levels = c.lines_of-levels.ensures in
    let test =
    ap₂ ◌&&◌ (c.controller_in_range.ensures ∙ ap controller_in_range block)
    (c.latches_high.ensures ∙ (λ i. latches_high (record { levels = levels i; latches = at (block i) 10 })))
    in
    sym (body_bad p c.in_ok-seats.seats (sym c.in_ok-seats.ensures) (sym test ∙ c.if-controller_in_range-latches_high.false))
