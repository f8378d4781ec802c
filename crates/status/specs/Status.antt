-- What a channel shows of its settings and its two sides: LSR, the cause, IIR and the line. `fifo` is the mode: bit 0 of the FCR.
use Rattle.std.specs.Prelude.{ℕ, ◌+◌, Bool, not, ◌&&◌, ◌||◌, List, [], ◌∷◌, eqb}
use Rattle.base.specs.Pick.{pick}
use Rattle.base.specs.Bits.{bit, bits}
use Rattle.base.specs.Marks.{mark_parity, mark_framing, mark_break}
use Rattle.registers.specs.declared.Settings.{Settings}
use Rattle.registers.specs.Words.{trigger}
use Rattle.registers.specs.Modem.{some_change}
use Rattle.receiver.specs.declared.Receiver.{Receiver}
use Rattle.receiver.specs.Receiver.{none_queued, shown_marks, some_marked, data_stands, timeout_stands}
use Rattle.transmitter.specs.declared.Transmitter.{Transmitter}
use Rattle.transmitter.specs.Transmitter.{none_waiting, all_sent}

-- "LSR: 0 queue not empty; 1 overrun; 2, 3, 4 parity, framing, break; 5 transmit queue empty; 6 that and the shift register empty; 7 in FIFO
-- mode some queued character has a mark, else 0."
unfoldable pub lsr_of : Bool → Receiver → Transmitter → ℕ
lsr_of fifo r t =
    bits
    (not (none_queued r)
    ∷ r.overrun
    ∷ bit mark_parity (shown_marks fifo r)
    ∷ bit mark_framing (shown_marks fifo r)
    ∷ bit mark_break (shown_marks fifo r)
    ∷ none_waiting t
    ∷ all_sent t
    ∷ some_marked fifo r
    ∷ [])

-- a cause of an interrupt: its code, whether IER enables it, and whether it stands
pub record Cause : Type 0 where
  pub code : ℕ
  pub enabled : Bool
  pub stands : Bool

-- "any of LSR 1-4"
unfoldable pub line_trouble : ℕ → Bool
line_trouble lsr = bit 1 lsr || bit 2 lsr || bit 3 lsr || bit 4 lsr

-- "06 any of LSR 1-4 (IER bit 2); 04 data, which is a character in 16450 mode and the trigger reached in FIFO mode (bit 0); 0C time-out count 4
-- (bit 0); 02 holding-empty flag (bit 1); 00 any of MSR 0-3 (bit 3)": of these settings, these two sides and this MSR
unfoldable pub causes : Settings → Receiver → Transmitter → ℕ → List Cause
causes s r t msr =
    record { code = 0x06; enabled = bit 2 s.ier; stands = line_trouble (lsr_of (bit 0 s.fcr) r t) }
    ∷ record { code = 0x04; enabled = bit 0 s.ier; stands = data_stands (bit 0 s.fcr) (trigger s.fcr) r }
    ∷ record { code = 0x0C; enabled = bit 0 s.ier; stands = timeout_stands r }
    ∷ record { code = 0x02; enabled = bit 1 s.ier; stands = t.flag }
    ∷ record { code = 0x00; enabled = bit 3 s.ier; stands = some_change msr }
    ∷ []

-- "names the first enabled cause", "else 01"
unfoldable pub first_cause : List Cause → ℕ
first_cause [] = 0x01
first_cause (row ∷ rows) = pick (row.enabled && row.stands) row.code (first_cause rows)

-- "IIR names the first enabled cause"
unfoldable pub cause_of : Settings → Receiver → Transmitter → ℕ → ℕ
cause_of s r t msr = first_cause (causes s r t msr)

-- "In FIFO mode C0 is added."
unfoldable pub iir_of : Settings → Receiver → Transmitter → ℕ → ℕ
iir_of s r t msr = cause_of s r t msr + pick (bit 0 s.fcr) 0xC0 0x00

-- "The seat's line is high exactly if a cause is named and MCR bit 3 is set." Ticket 7: in loopback too, "MCR bit 3 keeps gating the line."
unfoldable pub line_of : Settings → Receiver → Transmitter → ℕ → Bool
line_of s r t msr = not (eqb (cause_of s r t msr) 0x01) && bit 3 s.mcr
