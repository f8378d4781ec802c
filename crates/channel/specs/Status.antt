-- What a channel shows: LSR, MSR, the cause, IIR and the line.
use Rattle.std.specs.Prelude.{ℕ, Bool}
use Rattle.channel.specs.declared.Channel.{Channel}
use Rattle.channel.specs.Parts.{fifo}
use Rattle.registers.specs.Modem.{msr_of}
use Rattle.registers.specs.Loopback.{inputs_of}
use Rattle.status.specs.Status.{lsr_of, cause_of, iir_of, line_of}

-- the LSR of the two sides in the channel's mode
unfoldable pub lsr : Channel → ℕ
lsr c = lsr_of (fifo c) c.receiver c.transmitter

-- the modem inputs as the channel sees them: by its MCR, and the levels last given
abbrev pub inputs : Channel → ℕ
inputs c = inputs_of c.settings.mcr c.modem.levels

-- the MSR of those inputs, and of the changes that stand
unfoldable pub msr : Channel → ℕ
msr c = msr_of c.modem.changes (inputs c)

-- the cause of its settings, its two sides and its MSR
unfoldable pub cause : Channel → ℕ
cause c = cause_of c.settings c.receiver c.transmitter (msr c)

-- the IIR, and the line
unfoldable pub iir : Channel → ℕ
iir c = iir_of c.settings c.receiver c.transmitter (msr c)

unfoldable pub line : Channel → Bool
line c = line_of c.settings c.receiver c.transmitter (msr c)
