use Rattle.std.specs.Prelude.{◌≡◌, List, length, suc, ◌+◌, get_or}
use Rattle.std.proofs.Common.{refl, ap, ◌∙◌, arith, rules}
use Rattle.std.proofs.Math.ListN.{set}
use Rattle.seat.specs.declared.Seat.{Seat}
use Rattle.seat.specs.Seats.{no_seat, reset}
use Rattle.records.specs.Events.{seat_count}
use Rattle.bench.proofs.Resets.{reset_first, reset_one, reset_whole}
use Rattle.bench.proofs.seats.reset_all.Goals as goal

pub loop-seat-init : goal.loop-seat-init
loop-seat-init c = refl

pub loop-seat-preserved : goal.loop-seat-preserved
loop-seat-preserved c =
    let l = c.loop-seat in
    let s = c.args.seats in
    let long : length s ≡ seat_count = search rules in
    let one : suc l.seat-index ≡ l.seat-index + 1 = omega arith in
    ap (set l.seat-items l.seat-index) c.reset.ensures
    ∙ ap (λ (t : List Seat). set t l.seat-index (reset (get_or t l.seat-index no_seat))) l.invariant
    ∙ reset_one s l.seat-index no_seat (omega (arith, long, c.loop-seat-test.true))
    ∙ ap (λ n. reset_first n s) one

pub returns : goal.returns
returns c =
    let s = c.args.seats in
    let long : length s ≡ seat_count = search rules in
    c.loop-seat.invariant ∙ reset_whole s c.loop-seat.seat-index (omega (arith, long, c.loop-seat-test.false))
