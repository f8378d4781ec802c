-- The wiring: what a bench must be for its controller to hear its seats.
use Rattle.std.specs.Prelude.{◌≡◌, length}
use Rattle.records.specs.Events.{seat_count}
use Rattle.bench.specs.declared.Bench.{Bench}
use Rattle.bench.specs.Seats.{lines}

-- "Eight seats, 0 to 7. Seat n is one serial channel; its interrupt output is line n of one 8259A.": all seats are there, and each
-- line of the controller is at the level of its seat
pub record Wired (b : Bench) : Type 0 where
  pub all : length b.seats ≡ seat_count
  pub levels : b.controller.lines.levels ≡ lines b.seats
