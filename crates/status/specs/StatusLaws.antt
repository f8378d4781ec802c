-- What stands, asked of the two sides and of the changes; and how large a code is.
use Rattle.std.specs.Prelude.{ℕ, ◌+◌, ◌≤◌, Bool, ◌&&◌, ◌||◌, ◌≡◌, eqb}
use Rattle.std.proofs.Math.Bool.{not}
use Rattle.std.proofs.Math.Path.{ap}
use Rattle.std.proofs.Common.{arith}
use Rattle.base.specs.Pick.{pick}
use Rattle.base.specs.PickLaws.{pick_le}
use Rattle.base.specs.Bits.{bit}
use Rattle.base.proofs.BitLaws.{bit_bits}
use Rattle.registers.specs.declared.Settings.{Settings}
use Rattle.registers.specs.Modem.{msr_of}
use Rattle.registers.proofs.ModemLaws.{modem_changed}
use Rattle.receiver.specs.declared.Receiver.{Receiver}
use Rattle.receiver.specs.Receiver.{shown_marks, troubled}
use Rattle.transmitter.specs.declared.Transmitter.{Transmitter}
use Rattle.status.specs.Status.{lsr_of, line_trouble, causes, first_cause, cause_of, iir_of, line_of}

-- "any of LSR 1-4", asked of the receive side
pub line_trouble_lem : (fifo : Bool) (r : Receiver) (t : Transmitter) → line_trouble (lsr_of fifo r t) ≡ troubled fifo r
unfolding lsr_of line_trouble troubled
line_trouble_lem fifo r t =
    let overrun : bit 1 (lsr_of fifo r t) ≡ r.overrun = bit_bits 1 _ in
    let parity : bit 2 (lsr_of fifo r t) ≡ bit 0 (shown_marks fifo r) = bit_bits 2 _ in
    let framing : bit 3 (lsr_of fifo r t) ≡ bit 1 (shown_marks fifo r) = bit_bits 3 _ in
    let broken : bit 4 (lsr_of fifo r t) ≡ bit 2 (shown_marks fifo r) = bit_bits 4 _ in
    (λ i. overrun i || parity i || framing i || broken i)

module _ (s : Settings) (r : Receiver) (t : Transmitter) where
  -- no code is above 0C
  pub cause_small : (msr : ℕ) → cause_of s r t msr ≤ 12
  unfolding cause_of causes first_cause
  cause_small msr =
      pick_le _ _ _ _ (omega arith) (pick_le _ _ _ _ (omega arith) (pick_le _ _ _ _ (omega arith) (pick_le _ _ _ _ (omega arith)
      (pick_le _ _ _ _ (omega arith) (omega arith)))))

  -- of the MSR the changes that stand decide, and not the inputs
  pub cause_by_changes : (changes inputs : ℕ) → cause_of s r t changes ≡ cause_of s r t (msr_of changes inputs)
  unfolding cause_of causes first_cause
  cause_by_changes changes inputs = rw (modem_changed changes inputs)

  pub iir_by_changes : (changes inputs : ℕ) → iir_of s r t changes ≡ iir_of s r t (msr_of changes inputs)
  unfolding iir_of
  iir_by_changes changes inputs = ap (λ (n : ℕ). n + pick (bit 0 s.fcr) 0xC0 0x00) (cause_by_changes changes inputs)

  pub line_by_changes : (changes inputs : ℕ) → line_of s r t changes ≡ line_of s r t (msr_of changes inputs)
  unfolding line_of
  line_by_changes changes inputs = ap (λ (n : ℕ). not (eqb n 0x01) && bit 3 s.mcr) (cause_by_changes changes inputs)
