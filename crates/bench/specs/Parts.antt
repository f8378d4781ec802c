-- One record on the bench by its parts, which is how the code has it: the seat that it names and the controller beside it, stored back.
use Rattle.std.specs.Prelude.{ℕ}
use Rattle.records.specs.declared.Touched.{Touched}
use Rattle.records.specs.Events.{Record, seat_named}
use Rattle.records.specs.Parts.{parted}
use Rattle.bench.specs.declared.Bench.{Bench}
use Rattle.bench.specs.declared.Outcome.{Outcome}
use Rattle.bench.specs.Seats.{seat, with_seat, with_controller}
use Rattle.bench.specs.Steps.{shown}

-- the bench with touched parts stored back
abbrev pub stored : Bench → ℕ → Touched → Outcome
stored b n t = shown (with_controller (with_seat b n t.seat) t.controller) t.answer

-- a record met so
abbrev pub partly : Bench → Record → Outcome
partly b r = stored b (seat_named r) (parted (seat b (seat_named r)) b.controller r)
