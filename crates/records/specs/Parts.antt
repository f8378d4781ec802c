-- One record on one seat and the controller beside it, which is how the code has it: but for a master reset no other seat is touched.
use Rattle.std.specs.Prelude.{ℕ, eqb, Ok, Err}
use Rattle.base.specs.Pick.{pick}
use Rattle.base.specs.declared.Answer.TheVariants.{Done}
use Rattle.base.specs.declared.Answer.TheVariants as answer
use Rattle.registers.specs.declared.SeatEvent.{SeatEvent}
use Rattle.seat.specs.declared.Seat.{Seat}
use Rattle.seat.specs.Seats.{line, reset}
use Rattle.seat.specs.Steps as seat-step
use Rattle.controller.specs.declared.Controller.{Controller}
use Rattle.controller.specs.declared.Signalled as controller
use Rattle.controller.specs.Signals.{read, write, acknowledge}
use Rattle.controller.specs.Turns.{settled}
use Rattle.controller.specs.Steps.{step}
use Rattle.rank.specs.Sets.{with_line}
use Rattle.records.specs.declared.Touched.{Touched}
use Rattle.records.specs.declared.Event.{Event}
use Rattle.records.specs.declared.Event.TheVariants.{OfSeat, MasterReset, ReadController, WriteController, Acknowledge}
use Rattle.records.specs.Events.{Record, decoded, Decoded}

-- an event on the seat whose line is n
unfoldable pub touched : Seat → Controller → ℕ → SeatEvent → Touched
touched s c n e =
    pick (eqb (seat-step.refusal s e) 0)
    (record {
      seat = (seat-step.effect s e).seat;
      controller = settled c (with_line c.lines.levels n (line (seat-step.effect s e).seat));
      answer = (seat-step.effect s e).answer;
    })
    (record { seat = s; controller = c; answer = answer.Refused (seat-step.refusal s e) })

-- the controller is asked, and the seat is not
abbrev pub besides : Seat → controller.Signalled → Touched
besides s t = record { seat = s; controller = t.controller; answer = t.answer }

-- an event on its two parts; "a master reset touches all eight seats", this one among them, and leaves every line low
unfoldable pub met_parts : Seat → Controller → Event → Touched
met_parts s c (OfSeat n e) = touched s c n e
met_parts s c MasterReset = record { seat = reset s; controller = settled c 0; answer = Done }
met_parts s c (ReadController port) = record { seat = s; controller = c; answer = (step c (read port)).answer }
met_parts s c (WriteController port byte) = besides s (step c (write port byte))
met_parts s c Acknowledge = besides s (step c acknowledge)

unfoldable pub dealt_parts : Seat → Controller → Decoded → Touched
dealt_parts s c (Ok e) = met_parts s c e
dealt_parts s c (Err n) = record { seat = s; controller = c; answer = answer.Refused n }

-- a record on its two parts
abbrev pub parted : Seat → Controller → Record → Touched
parted s c r = dealt_parts s c (decoded r)
