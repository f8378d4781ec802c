-- An event on a seat as the code has it: the tallies by how many were queued before and after it, and 19 behind what the channel refuses.
use Rattle.std.specs.Prelude.{ℕ, ◌-◌, Bool, ◌==◌}
use Rattle.base.specs.Pick.{pick}
use Rattle.base.specs.Refusals.{tally_full_number}
use Rattle.base.specs.declared.Answer.TheVariants.{Refused}
use Rattle.registers.specs.declared.SeatEvent.{SeatEvent}
use Rattle.registers.specs.declared.SeatEvent.TheVariants.{Read, Write, Arrival, Levels, Time}
use Rattle.registers.specs.Refusals as registers
use Rattle.seat.specs.declared.Seat.{Seat}
use Rattle.seat.specs.declared.Replied.{Replied}
use Rattle.seat.specs.declared.Tallies.{Tallies}
use Rattle.seat.specs.Tallies.{more}

-- where nothing is received, a read takes what is missing then, and a write has dropped it
abbrev pub gone_by : Tallies → SeatEvent → ℕ → Tallies
gone_by t (Read number) n = more t 0 n 0 0
gone_by t (Write number byte) n = more t 0 0 0 n
gone_by t (Arrival marks byte) n = more t 0 0 0 0
gone_by t (Levels levels) n = more t 0 0 0 0
gone_by t Time n = more t 0 0 0 0

-- of an event, by whether it has received one; then as many are queued as before where an overrun has lost one
unfoldable pub counted : Tallies → SeatEvent → Bool → ℕ → ℕ → Tallies
counted t e heard before after = pick heard (more t 1 0 (pick (after == before) 1 0) 0) (gone_by t e (before - after))

-- the number that is given where one more would arrive than can be tallied
abbrev pub last_number : ℕ → ℕ
last_number number = pick (number == 0) tally_full_number number

abbrev pub refused_last : Seat → SeatEvent → Replied
refused_last s e = record { seat = s; answer = Refused (last_number (registers.refusal s.channel.settings e)) }
