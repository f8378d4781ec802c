-- The five tallies of a seat, as a call that is no event hands them out.
use Rattle.std.specs.Prelude.{ℕ, Result, Ok, Err}
use Rattle.base.specs.Pick.{pick}
use Rattle.base.specs.Refusals.{seat_above_number, number_of}
use Rattle.base.specs.declared.Answer.{Answer}
use Rattle.base.specs.declared.Answer.TheVariants.{Done, Refused}
use Rattle.base.specs.declared.Refusal.{Refusal}
use Rattle.base.specs.declared.Refusal.TheVariants.{SeatAbove}
use Rattle.seat.specs.declared.Five.{Five}
use Rattle.seat.specs.declared.Seat.{Seat}
use Rattle.seat.specs.Seats.{five}
use Rattle.records.specs.Events.{seat_above}
use Rattle.bench.specs.declared.Bench.{Bench}
use Rattle.bench.specs.Seats.{seat}

-- ticket 8: "Beside each channel stand five 32-bit tallies": asked by the number of a seat, which this is where there is one of that number;
-- document 01: "seat (or line) above 7" is refused
abbrev pub asked_by : Seat → ℕ → Result Five Refusal
asked_by s n = pick (seat_above n) (Err SeatAbove) (Ok (five s))

-- ticket 8: "Beside each channel stand five 32-bit tallies": those of seat n of a bench
unfoldable pub asked_of : Bench → ℕ → Result Five Refusal
asked_of b n = asked_by (seat b n) n

-- ---- the same as C is handed them: an answer, and five numbers either way

-- document 01: "Every public call has a contract that determines answer, state and any lent memory for all inputs, refusals too": the five of a refusal too
pub record Tallied : Type 0 where
  pub answer : Answer
  pub five : Five

-- all five are 0
abbrev pub no_five : Five
no_five = record { arrived = 0; read = 0; lost = 0; dropped = 0; queued = 0 }

-- what is refused has none
unfoldable pub handed : Result Five Refusal → Tallied
handed (Ok z) = record { answer = Done; five = z }
handed (Err r) = record { answer = Refused (number_of r); five = no_five }

-- ticket 8: "Beside each channel stand five 32-bit tallies": as `asked_by`; document 01: "seat (or line) above 7" is refused, and has none
abbrev pub tallied_by : Seat → ℕ → Tallied
tallied_by s n = pick (seat_above n) (record { answer = Refused seat_above_number; five = no_five }) (record { answer = Done; five = five s })

-- ticket 8: "Beside each channel stand five 32-bit tallies": those of seat n of a bench
unfoldable pub tallies_of : Bench → ℕ → Tallied
tallies_of b n = tallied_by (seat b n) n
