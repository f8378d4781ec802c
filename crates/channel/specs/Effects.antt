-- What an accepted event does to a channel, and what it is answered with.
use Rattle.std.specs.Prelude.{ℕ, Bool, not, ◌&&◌, ◌||◌, eqb}
use Rattle.base.specs.Pick.{pick}
use Rattle.base.specs.Bits.{bit}
use Rattle.base.specs.declared.Answer.{Answer}
use Rattle.base.specs.declared.Answer.TheVariants.{Byte, Letter}
use Rattle.queue.specs.declared.Character.{Character}
use Rattle.receiver.specs.declared.Receiver.{Receiver}
use Rattle.receiver.specs.Receiver.{received, got, lsr_seen, waited, fcr_heard}
use Rattle.transmitter.specs.declared.Transmitter.{Transmitter}
use Rattle.transmitter.specs.Transmitter.{written, shifted, iir_seen, ier_sent, fcr_sent}
use Rattle.channel.specs.declared.Modem.{Modem}
use Rattle.channel.specs.declared.Channel.{Channel}
use Rattle.channel.specs.declared.Stepped.{Stepped}
use Rattle.registers.specs.declared.Register.{Register}
use Rattle.registers.specs.declared.Register.TheVariants.{RbrThr, Ier, IirFcr, Lcr, Mcr, Lsr, Msr, Scratch, Dll, Dlm}
use Rattle.channel.specs.Parts.{with_settings, with_receiver, with_transmitter, with_modem, fifo, in_loopback}
use Rattle.registers.specs.Words.{cut, wire_answer}
use Rattle.registers.specs.Registers.{mcr_kept, kept, shown_by}
use Rattle.registers.specs.Modem.{differ, changes_after}
use Rattle.registers.specs.Loopback.{inputs_of}
use Rattle.channel.specs.Status.{lsr, msr, inputs, cause, iir}

-- ---- reads

-- "A read that named 02 clears that flag."
unfoldable pub iir_read : Channel → Channel
iir_read c = with_transmitter c (iir_seen (eqb (cause c) 0x02) c.transmitter)

-- "A read clears overrun, and the marks it showed, after answering."
unfoldable pub lsr_read : Channel → Channel
lsr_read c = with_receiver c (lsr_seen (fifo c) c.receiver)

-- "A read clears bits 0-3 after answering."
unfoldable pub msr_read : Channel → Channel
msr_read c = with_modem c (record { levels = c.modem.levels; changes = 0 })

-- "read register": "the byte". Ticket 6: "The RBR answer gains these figures", and no other register's
unfoldable pub answer_at : Channel → Register → Answer
answer_at c RbrThr = Letter (got c.receiver).byte (got c.receiver).figures
answer_at c Ier = Byte (shown_by c.settings Ier)
answer_at c IirFcr = Byte (iir c)
answer_at c Lcr = Byte (shown_by c.settings Lcr)
answer_at c Mcr = Byte (shown_by c.settings Mcr)
answer_at c Lsr = Byte (lsr c)
answer_at c Msr = Byte (msr c)
answer_at c Scratch = Byte (shown_by c.settings Scratch)
answer_at c Dll = Byte (shown_by c.settings Dll)
answer_at c Dlm = Byte (shown_by c.settings Dlm)

-- what a read leaves: four registers change something when they are read
unfoldable pub after_read : Channel → Register → Channel
after_read c RbrThr = with_receiver c (got c.receiver).receiver
after_read c Ier = c
after_read c IirFcr = iir_read c
after_read c Lcr = c
after_read c Mcr = c
after_read c Lsr = lsr_read c
after_read c Msr = msr_read c
after_read c Scratch = c
after_read c Dll = c
after_read c Dlm = c

-- "read register": the answer is told, and then the channel is what the read leaves
abbrev pub read_of : Channel → Register → Stepped
read_of c r = record { channel = after_read c r; answer = answer_at c r }

-- ---- writes

-- "IER write that turns bit 1 from 0 to 1 with the transmit queue empty sets the holding-empty flag."
unfoldable pub ier_written : Channel → ℕ → Channel
ier_written c byte =
    record {
      settings = kept c.settings Ier byte;
      receiver = c.receiver;
      transmitter = ier_sent (not (bit 1 c.settings.ier) && bit 1 byte) c.transmitter;
      modem = c.modem;
    }

-- "A changed bit 0 empties both"
unfoldable pub mode_changed : Channel → ℕ → Bool
mode_changed c byte = differ (fifo c) (bit 0 byte)

-- "Bit 0 set": "bit 1 empties the receive queue"; "A changed bit 0 empties both and clears kept marks."
unfoldable pub fcr_receiver : Channel → ℕ → Receiver
fcr_receiver c byte = fcr_heard (mode_changed c byte) (bit 0 byte && bit 1 byte) c.receiver

-- "Bit 0 set": "bit 2 the transmit queue"; "A changed bit 0 empties both"
unfoldable pub fcr_transmitter : Channel → ℕ → Transmitter
fcr_transmitter c byte = fcr_sent (mode_changed c byte || (bit 0 byte && bit 2 byte)) c.transmitter

-- the FCR with what it empties
unfoldable pub fcr_written : Channel → ℕ → Channel
fcr_written c byte =
    record {
      settings = kept c.settings IirFcr byte;
      receiver = fcr_receiver c byte;
      transmitter = fcr_transmitter c byte;
      modem = c.modem;
    }

-- "bits 0, 1, 3 set when CTS, DSR, DCD change; bit 2 when RI goes from active to inactive": the modem side where the MCR and the levels become these.
-- The inputs are asked for before and after, and both are those that the channel sees
unfoldable pub noticed : Channel → ℕ → ℕ → Modem
noticed c mcr levels = record { levels = levels; changes = changes_after c.modem.changes (inputs c) (inputs_of mcr levels) }

-- ticket 7: "with change bits as for real inputs, also where a write of MCR enters or leaves"
unfoldable pub mcr_written : Channel → ℕ → Channel
mcr_written c byte =
    record {
      settings = kept c.settings Mcr byte;
      receiver = c.receiver;
      transmitter = c.transmitter;
      modem = noticed c (mcr_kept byte) c.modem.levels;
    }

-- "write register". "Writes to LSR and MSR are accepted and change nothing."
unfoldable pub after_write : Channel → Register → ℕ → Channel
after_write c RbrThr byte = with_transmitter c (written (fifo c) c.transmitter byte)
after_write c Ier byte = ier_written c byte
after_write c IirFcr byte = fcr_written c byte
after_write c Lcr byte = with_settings c (kept c.settings Lcr byte)
after_write c Mcr byte = mcr_written c byte
after_write c Lsr byte = c
after_write c Msr byte = c
after_write c Scratch byte = with_settings c (kept c.settings Scratch byte)
after_write c Dll byte = with_settings c (kept c.settings Dll byte)
after_write c Dlm byte = with_settings c (kept c.settings Dlm byte)

-- ---- the wire

-- a character is received in the channel's mode, wherever it comes from: the receive side after it
unfoldable pub receives : Channel → Character → Receiver
receives c ch = received (fifo c) c.receiver ch

-- ticket 7: in loopback "an arrival changes nothing"
unfoldable pub heard_outside : Channel → Character → Receiver
heard_outside c ch = pick (in_loopback c) c.receiver (receives c ch)

-- "character arrives"
unfoldable pub after_arrival : Channel → ℕ → ℕ → Channel
after_arrival c marks byte = with_receiver c (heard_outside c (record { «data» = byte; marks = marks }))

-- "modem inputs": "levels (1 CTS, 2 DSR, 4 RI, 8 DCD; set = active)". Ticket 7: in loopback "modem levels are only remembered"
unfoldable pub after_levels : Channel → ℕ → Channel
after_levels c levels = with_modem c (noticed c c.settings.mcr levels)

-- "a character in the shift register leaves, cut to the word length". Ticket 7: "without marks"
abbrev pub leaver : Channel → Character
leaver c = record { «data» = cut c.settings.lcr c.transmitter.shift; marks = 0 }

-- ticket 7: in loopback "the character that leaves is received at once, cut to the word length and without marks"
unfoldable pub heard_back : Channel → Receiver
heard_back c = pick (in_loopback c && c.transmitter.busy) (receives c (leaver c)) c.receiver

-- "one character time passes": "a character in the shift register leaves, cut to the word length; the oldest queued moves in"; "in FIFO mode
-- with a character in the receive queue the time-out count rises, up to 4". Ticket 7: what leaves is received "before the next one moves in"
unfoldable pub after_time : Channel → Channel
after_time c =
    record {
      settings = c.settings;
      receiver = waited (fifo c) (heard_back c);
      transmitter = shifted c.transmitter;
      modem = c.modem;
    }

-- and what is answered: by what was in the shift register
unfoldable pub time_answer : Channel → Answer
time_answer c = wire_answer c.settings.mcr c.settings.lcr c.transmitter.busy c.transmitter.shift
