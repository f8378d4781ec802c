-- What can be done to a seat, and a seat after some of it.
use Rattle.std.specs.Prelude.{List, [], ◌∷◌}
use Rattle.registers.specs.declared.SeatEvent.{SeatEvent}
use Rattle.seat.specs.declared.Seat.{Seat}
use Rattle.seat.specs.Seats.{reset}
use Rattle.seat.specs.Steps.{stepped}

-- an event of its own, or a master reset
pub data Act : Type 0 where
  event : SeatEvent → Act
  resets : Act

-- a seat after it
abbrev pub acted : Seat → Act → Seat
acted s (event e) = (stepped s e).seat
acted s resets = reset s

abbrev pub acted_all : Seat → List Act → Seat
acted_all s [] = s
acted_all s (a ∷ rest) = acted_all (acted s a) rest
