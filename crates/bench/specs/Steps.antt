-- One record on the bench: refused, or done; the answer, and the output after it.
use Rattle.std.specs.Prelude.{ℕ, map, eqb, Ok, Err}
use Rattle.base.specs.Pick.{pick}
use Rattle.base.specs.Refusals.{refusal_by}
use Rattle.base.specs.declared.Answer.{Answer}
use Rattle.base.specs.declared.Answer.TheVariants.{Done}
use Rattle.base.specs.declared.Answer.TheVariants as answer
use Rattle.seat.specs.Seats.{line, reset}
use Rattle.seat.specs.Steps as seat-step
use Rattle.controller.specs.Signals.{read, write, acknowledge}
use Rattle.controller.specs.Turns.{settled, output_of}
use Rattle.controller.specs.Steps as controller
use Rattle.rank.specs.Sets.{with_line}
use Rattle.records.specs.declared.Event.{Event}
use Rattle.records.specs.declared.Event.TheVariants.{OfSeat, MasterReset, ReadController, WriteController, Acknowledge}
use Rattle.records.specs.Events.{Record, event, Decoded}
use Rattle.bench.specs.declared.Bench.{Bench}
use Rattle.bench.specs.declared.Outcome.{Outcome}
use Rattle.bench.specs.Refusals.{room_grounds, refusal}
use Rattle.bench.specs.Seats.{seat, with_seat, with_controller, lines}

-- "Each call touches the one seat it names, or the controller; a master reset touches all eight seats. Line changes reach the controller's
-- latches in the same event."
unfoldable pub after : Bench → Event → Bench
after b (OfSeat n e) =
    with_controller (with_seat b n (seat-step.effect (seat b n) e).seat)
    (settled b.controller (with_line b.controller.lines.levels n (line (seat-step.effect (seat b n) e).seat)))
after b MasterReset = record { seats = map reset b.seats; controller = settled b.controller (lines (map reset b.seats)) }
after b (ReadController port) = b
after b (WriteController port byte) = with_controller b (controller.effect b.controller (write port byte)).controller
after b Acknowledge = with_controller b (controller.effect b.controller acknowledge).controller

-- what an accepted event is answered with
unfoldable pub answer_to : Bench → Event → Answer
answer_to b (OfSeat n e) = (seat-step.effect (seat b n) e).answer
answer_to b MasterReset = Done
answer_to b (ReadController port) = (controller.effect b.controller (read port)).answer
answer_to b (WriteController port byte) = (controller.effect b.controller (write port byte)).answer
answer_to b Acknowledge = (controller.effect b.controller acknowledge).answer

-- a bench with an answer, and "output after the event"
abbrev pub shown : Bench → Answer → Outcome
shown b a = record { bench = b; answer = a; output = output_of b.controller }

-- "The answer of every refusal is FFF and nothing changes."
unfoldable pub outcome : Bench → Record → Outcome
outcome b r =
    pick (eqb (refusal b r) 0)
    (shown (after b (event r)) (answer_to b (event r)))
    (shown b (answer.Refused (refusal b r)))

-- ---- the same, with what is refused told apart by who refuses it

-- what the room that an event goes to refuses
unfoldable pub room_refusal : Bench → Event → ℕ
room_refusal b e = refusal_by (room_grounds b e)

-- a decoded event: refused by its room, or done
unfoldable pub met : Bench → Event → Outcome
met b e =
    pick (eqb (room_refusal b e) 0)
    (shown (after b e) (answer_to b e))
    (shown b (answer.Refused (room_refusal b e)))

-- a decoded record: its event is met, or its refusal shown
unfoldable pub dealt : Bench → Decoded → Outcome
dealt b (Ok e) = met b e
dealt b (Err n) = shown b (answer.Refused n)
