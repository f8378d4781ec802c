-- What is refused: the grounds of a record are those of decoding and those of the room that its event goes to.
use Rattle.std.specs.Prelude.{ℕ, List, [], ◌++◌}
use Rattle.base.specs.Refusals.{Ground, refusal_by}
use Rattle.seat.specs.Steps as seat-step
use Rattle.controller.specs.Signals.{read, write, acknowledge}
use Rattle.controller.specs.Refusals as controller
use Rattle.records.specs.declared.Event.{Event}
use Rattle.records.specs.declared.Event.TheVariants.{OfSeat, MasterReset, ReadController, WriteController, Acknowledge}
use Rattle.records.specs.Events.{Record, whole, short, early_grounds, event_of}
use Rattle.bench.specs.declared.Bench.{Bench}
use Rattle.bench.specs.Seats.{seat}

-- "Each call touches the one seat it names, or the controller": and is refused by that alone; a master reset by nobody
unfoldable pub room_grounds : Bench → Event → List Ground
room_grounds b (OfSeat n e) = seat-step.grounds (seat b n) e
room_grounds b MasterReset = []
room_grounds b (ReadController port) = controller.grounds b.controller.setup (read port)
room_grounds b (WriteController port byte) = controller.grounds b.controller.setup (write port byte)
room_grounds b Acknowledge = controller.grounds b.controller.setup acknowledge

-- all grounds of a record; of a short one there is no event
unfoldable pub grounds : Bench → Record → List Ground
grounds b (whole kind seat number value) = early_grounds (whole kind seat number value) ++ room_grounds b (event_of kind seat number value)
grounds b short = early_grounds short

-- "They are given in no other case.": the first in the order that stands, "0 for none"
unfoldable pub refusal : Bench → Record → ℕ
refusal b r = refusal_by (grounds b r)
