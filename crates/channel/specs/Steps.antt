-- One event on a seat: refused, or done.
use Rattle.base.specs.Refusals.{joined}
use Rattle.base.specs.declared.Answer.{Answer}
use Rattle.base.specs.declared.Answer.TheVariants.{Done, Refused}
use Rattle.channel.specs.declared.Channel.{Channel}
use Rattle.channel.specs.declared.Stepped.{Stepped}
use Rattle.registers.specs.declared.SeatEvent.{SeatEvent}
use Rattle.registers.specs.declared.SeatEvent.TheVariants.{Read, Write, Arrival, Levels, Time}
use Rattle.channel.specs.Parts.{divisor_shown}
use Rattle.registers.specs.Registers.{register_at}
use Rattle.registers.specs.Refusals.{refusal}
use Rattle.channel.specs.Effects.{read_of, after_write, after_arrival, after_levels, after_time, time_answer}

-- a channel as it stands, and what its event is answered with
abbrev pub answered : Channel → Answer → Stepped
answered c answer = record { channel = c; answer = answer }

-- an accepted event
unfoldable pub effect : Channel → SeatEvent → Stepped
effect c (Read n) = read_of c (register_at (divisor_shown c) n)
effect c (Write n byte) = record { channel = after_write c (register_at (divisor_shown c) n) byte; answer = Done }
effect c (Arrival marks byte) = record { channel = after_arrival c marks byte; answer = Done }
effect c (Levels levels) = record { channel = after_levels c levels; answer = Done }
effect c Time = record { channel = after_time c; answer = time_answer c }

-- "The answer of every refusal is FFF and nothing changes."
unfoldable pub stepped : Channel → SeatEvent → Stepped
stepped c e = joined (refusal c.settings e) (effect c e) (λ number. record { channel = c; answer = Refused number })
