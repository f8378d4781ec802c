-- One event on a channel as it was before ticket 7, when loopback was not built: what differs from today, in the words of then.
use Rattle.std.specs.Prelude.{ℕ, Bool, false, ◌&&◌, ◌||◌, List, [], ◌∷◌, eqb}
use Rattle.base.specs.Pick.{pick}
use Rattle.base.specs.Bits.{bit}
use Rattle.base.specs.Refusals.{number_above_number, not_served_number, Ground, refusal_by, joined}
use Rattle.base.specs.declared.Answer.{Answer}
use Rattle.base.specs.declared.Answer.TheVariants.{Byte, Done, Sent, Idle, Break, Refused}
use Rattle.receiver.specs.Receiver.{received, waited}
use Rattle.transmitter.specs.Transmitter.{shifted}
use Rattle.registers.specs.declared.Settings.{Settings}
use Rattle.registers.specs.declared.SeatEvent.{SeatEvent}
use Rattle.registers.specs.declared.SeatEvent.TheVariants.{Read, Write, Arrival, Levels, Time}
use Rattle.registers.specs.declared.Register.{Register}
use Rattle.registers.specs.declared.Register.TheVariants.{RbrThr, Ier, IirFcr, Lcr, Mcr, Lsr, Msr, Scratch, Dll, Dlm}
use Rattle.registers.specs.Registers.{register_at, kept}
use Rattle.registers.specs.Words.{cut}
use Rattle.registers.specs.Modem.{changes_after, msr_of}
use Rattle.registers.specs.Refusals.{register_above, grounds}
use Rattle.channel.specs.declared.Channel.{Channel}
use Rattle.channel.specs.declared.Stepped.{Stepped}
use Rattle.channel.specs.Parts.{with_settings, with_receiver, with_modem, fifo, divisor_shown}
use Rattle.channel.specs.Effects.{answer_at, after_read, after_write}

-- ‘MCR write with bit 4 set’, which document 01 had among what is not served
unfoldable pub asks_loop : SeatEvent → Bool
asks_loop (Read n) = false
asks_loop (Write n byte) = eqb n 4 && bit 4 byte
asks_loop (Arrival marks byte) = false
asks_loop (Levels levels) = false
asks_loop Time = false

-- it was refused by 9, behind 2
unfoldable pub grounds_then : Settings → SeatEvent → List Ground
grounds_then s (Read n) = grounds s (Read n)
grounds_then s (Write n byte) =
    record { number = number_above_number; holds = register_above n } ∷ record { number = not_served_number; holds = asks_loop (Write n byte) } ∷ []
grounds_then s (Arrival marks byte) = grounds s (Arrival marks byte)
grounds_then s (Levels levels) = grounds s (Levels levels)
grounds_then s Time = grounds s Time

-- "MSR: bits 4-7 CTS, DSR, RI, DCD": the levels last given
unfoldable pub answer_then : Channel → Register → Answer
answer_then c RbrThr = answer_at c RbrThr
answer_then c Ier = answer_at c Ier
answer_then c IirFcr = answer_at c IirFcr
answer_then c Lcr = answer_at c Lcr
answer_then c Mcr = answer_at c Mcr
answer_then c Lsr = answer_at c Lsr
answer_then c Msr = Byte (msr_of c.modem.changes c.modem.levels)
answer_then c Scratch = answer_at c Scratch
answer_then c Dll = answer_at c Dll
answer_then c Dlm = answer_at c Dlm

-- "MCR its low 5": a write kept them, and did nothing else
unfoldable pub written_then : Channel → Register → ℕ → Channel
written_then c RbrThr byte = after_write c RbrThr byte
written_then c Ier byte = after_write c Ier byte
written_then c IirFcr byte = after_write c IirFcr byte
written_then c Lcr byte = after_write c Lcr byte
written_then c Mcr byte = with_settings c (kept c.settings Mcr byte)
written_then c Lsr byte = after_write c Lsr byte
written_then c Msr byte = after_write c Msr byte
written_then c Scratch byte = after_write c Scratch byte
written_then c Dll byte = after_write c Dll byte
written_then c Dlm byte = after_write c Dlm byte

-- an accepted event: "character arrives", "modem inputs", "one character time passes"
unfoldable pub effect_then : Channel → SeatEvent → Stepped
effect_then c (Read n) = record { channel = after_read c (register_at (divisor_shown c) n); answer = answer_then c (register_at (divisor_shown c) n) }
effect_then c (Write n byte) = record { channel = written_then c (register_at (divisor_shown c) n) byte; answer = Done }
effect_then c (Arrival marks byte) =
    record { channel = with_receiver c (received (fifo c) c.receiver (record { «data» = byte; marks = marks })); answer = Done }
effect_then c (Levels levels) =
    record { channel = with_modem c (record { levels = levels; changes = changes_after c.modem.changes c.modem.levels levels }); answer = Done }
effect_then c Time =
    record {
      channel =
          record { settings = c.settings; receiver = waited (fifo c) c.receiver; transmitter = shifted c.transmitter; modem = c.modem };
      answer = pick (bit 6 c.settings.lcr) Break (pick c.transmitter.busy (Sent (cut c.settings.lcr c.transmitter.shift)) Idle);
    }

-- "The answer of every refusal is FFF and nothing changes."
unfoldable pub stepped_then : Channel → SeatEvent → Stepped
stepped_then c e = joined (refusal_by (grounds_then c.settings e)) (effect_then c e) (λ number. record { channel = c; answer = Refused number })

-- the channel after these events, in order, and what each was answered with
unfoldable pub after_then : Channel → List SeatEvent → Channel
after_then c [] = c
after_then c (e ∷ es) = after_then (stepped_then c e).channel es

unfoldable pub answers_then : Channel → List SeatEvent → List Answer
answers_then c [] = []
answers_then c (e ∷ es) = (stepped_then c e).answer ∷ answers_then (stepped_then c e).channel es

-- some of these asks for loopback
unfoldable pub some_asks : List SeatEvent → Bool
some_asks [] = false
some_asks (e ∷ es) = asks_loop e || some_asks es
