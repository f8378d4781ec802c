-- What a seat refuses of an event: the settings of its channel decide it alone.
use Rattle.std.specs.Prelude.{ℕ, Bool, List, [], ◌∷◌, ltb, eqb}
use Rattle.base.specs.Refusals.{number_above_number, no_divisor_number, marks_above_number, beyond_word_number, parity_unasked_number, break_with_data_number, levels_above_number, Ground, refusal_by}
use Rattle.registers.specs.declared.Settings.{Settings}
use Rattle.registers.specs.declared.SeatEvent.{SeatEvent}
use Rattle.registers.specs.declared.SeatEvent.TheVariants.{Read, Write, Arrival, Levels, Time}
use Rattle.registers.specs.Registers.{divisor}
use Rattle.registers.specs.Words.{marks_above, beyond_word, parity_unasked, break_with_data}

-- "register above 7, port above 1": of a seat, the register
abbrev pub register_above : ℕ → Bool
register_above n = ltb 7 n

-- "while the divisor is 0"
abbrev pub no_divisor : Settings → Bool
no_divisor s = eqb (divisor s) 0

-- "modem levels above 15"
abbrev pub levels_above : ℕ → Bool
levels_above levels = ltb 15 levels

-- the grounds of each event: a register's number; "arrival or character time while the divisor is 0"; the four things that may be off with an arrival,
-- ticket 4: "tried in this order where 6 stood"; and the levels. Ticket 7: "9 is no longer given for MCR", so that a write has no other ground than a
-- read, and in loopback "arrivals and modem events are checked as before", so that no ground asks for the MCR
unfoldable pub grounds : Settings → SeatEvent → List Ground
grounds s (Read n) = record { number = number_above_number; holds = register_above n } ∷ []
grounds s (Write n byte) = record { number = number_above_number; holds = register_above n } ∷ []
grounds s (Arrival marks byte) =
    record { number = no_divisor_number; holds = no_divisor s }
    ∷ record { number = marks_above_number; holds = marks_above marks }
    ∷ record { number = beyond_word_number; holds = beyond_word s.lcr byte }
    ∷ record { number = parity_unasked_number; holds = parity_unasked s.lcr marks }
    ∷ record { number = break_with_data_number; holds = break_with_data marks byte }
    ∷ []
grounds s (Levels levels) = record { number = levels_above_number; holds = levels_above levels } ∷ []
grounds s Time = record { number = no_divisor_number; holds = no_divisor s } ∷ []

-- the number that a seat gives, 0 for none
unfoldable pub refusal : Settings → SeatEvent → ℕ
refusal s e = refusal_by (grounds s e)
