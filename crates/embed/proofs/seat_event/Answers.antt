use Rattle.std.proofs.Common.{◌≡◌, ap₂, subst, length}
use Rattle.seat.specs.declared.Seat.{Seat}
use Rattle.controller.specs.declared.Controller.{Controller}
use Rattle.records.specs.Events.{seat_count}
use Rattle.records.specs.Parts.{parted}
use Rattle.bench.specs.Seats.{seat, with_seat, with_controller}
use Rattle.c_bench.specs.Parts.{Parted, asked_for}
use Rattle.embed.proofs.Chairs.{held_is}
use Rattle.embed.proofs.seat_event.Goals as goal

pub returns : goal.returns
unfolding with_seat
returns c =
    let b = c.args.bench.now in
    let n = c.args.asked.seat in
    let asked = asked_for c.args.asked in
    let full : length b.seats ≡ seat_count = search in
    let parts : Parted c.parts-p.result (parted (seat b n) b.controller asked) =
    subst (λ (s : Seat). Parted c.parts-p.result (parted s b.controller asked)) (held_is b n _ full) c.parts-p.ensures in
    (ap₂ (λ (s : Seat) (k : Controller). with_controller (with_seat b n s) k) parts.seat parts.controller, parts.told)
