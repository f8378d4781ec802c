-- LSR, MSR and IIR, bit by bit.
use Prim.Native.Nat.{ℕ, zero, suc, ◌+◌, ◌<◌, ◌≤◌, ◌/◌, ◌%◌}
use Rattle.std.specs.Prelude.{Bool, true, false, not, ◌&&◌, ◌≡◌, eqb}
use Rattle.std.proofs.Math.Path.{ap}
use Rattle.std.proofs.Common.{◌∙◌, le_of_suc-le-suc, not-suc-le-zero, arith, eq-eqb, ne_eqb}
use Rattle.base.specs.Pick.{pick}
use Rattle.base.specs.PickLaws.{pick_true, pick_false}
use Rattle.base.specs.Bits.{bit}
use Rattle.base.proofs.BitLaws.{bit_bits, bits_small}
use Rattle.queue.specs.Queue.{oldest, marked}
use Rattle.receiver.specs.Receiver.{none_queued, shown_marks, some_marked}
use Rattle.transmitter.specs.Transmitter.{none_waiting, all_sent}
use Rattle.channel.specs.declared.Channel.{Channel}
use Rattle.channel.specs.Parts.{fifo, in_loopback}
use Rattle.registers.proofs.ModemLaws.{shows_changes, shows_inputs, msr_small}
use Rattle.registers.proofs.LoopbackLaws.{inputs_looped, inputs_plain}
use Rattle.channel.specs.Status.{lsr, msr, inputs, cause, iir}
use Rattle.status.specs.Status.{lsr_of, iir_of}
use Rattle.status.specs.StatusLaws.{cause_small}

-- document 004: ‘When the serial channel is in the loop mode (MCR4 is set), MSR4 reflects the value of RTS in the MCR.’, and so MSR5 DTR, MSR6 OUT1
-- and MSR7 OUT2: MCR bits 1, 0, 2 and 3
pub record ShowsOutputs (mcr msr : ℕ) : Type 0 where
  pub bit_4_is_rts : bit 4 msr ≡ bit 1 mcr
  pub bit_5_is_dtr : bit 5 msr ≡ bit 0 mcr
  pub bit_6_is_out1 : bit 6 msr ≡ bit 2 mcr
  pub bit_7_is_out2 : bit 7 msr ≡ bit 3 mcr

module _ (c : Channel) where
  -- 0: the receive queue is not empty
  pub lsr_data : bit 0 (lsr c) ≡ not (eqb c.receiver.queue.count 0)
  unfolding lsr lsr_of none_queued
  lsr_data = bit_bits 0 _

  -- 1: overrun
  pub lsr_overrun : bit 1 (lsr c) ≡ c.receiver.overrun
  unfolding lsr lsr_of
  lsr_overrun = bit_bits 1 _

  -- 2, 3, 4: parity, framing and break of the marks shown
  lsr_marks : (k : ℕ) → k < 3 → bit (2 + k) (lsr c) ≡ bit k (shown_marks (fifo c) c.receiver)
  unfolding lsr lsr_of
  lsr_marks zero less = bit_bits 2 _
  lsr_marks (suc zero) less = bit_bits 3 _
  lsr_marks (suc (suc zero)) less = bit_bits 4 _
  lsr_marks (suc (suc (suc k))) less = absurd (not-suc-le-zero (le_of_suc-le-suc (le_of_suc-le-suc (le_of_suc-le-suc less))))

  -- which are the kept marks in 16450 mode
  pub lsr_kept : fifo c ≡ false → (k : ℕ) → k < 3 → bit (2 + k) (lsr c) ≡ bit k c.receiver.kept
  unfolding shown_marks
  lsr_kept mode k less = lsr_marks k less ∙ ap (bit k) (pick_false _ _ _ mode)

  -- and the oldest character's in FIFO mode
  pub lsr_oldest : fifo c ≡ true → (k : ℕ) → k < 3 → bit (2 + k) (lsr c) ≡ bit k (oldest c.receiver.queue).marks
  unfolding shown_marks
  lsr_oldest mode k less = lsr_marks k less ∙ ap (bit k) (pick_true _ _ _ mode)

  -- 5: the transmit queue is empty
  pub lsr_empty : bit 5 (lsr c) ≡ eqb c.transmitter.queue.count 0
  unfolding lsr lsr_of none_waiting
  lsr_empty = bit_bits 5 _

  -- 6: and the shift register too
  pub lsr_idle : bit 6 (lsr c) ≡ (eqb c.transmitter.queue.count 0 && not c.transmitter.busy)
  unfolding lsr lsr_of all_sent none_waiting
  lsr_idle = bit_bits 6 _

  -- 7: some queued character has a mark, in FIFO mode alone
  pub lsr_marked : bit 7 (lsr c) ≡ (fifo c && marked c.receiver.queue)
  unfolding lsr lsr_of some_marked
  lsr_marked = bit_bits 7 _

  -- and there are no more than these eight
  pub lsr_byte : lsr c < 0x100
  unfolding lsr lsr_of
  lsr_byte = bits_small _

  -- MSR bits 0 to 3 are the changes that stand
  pub msr_changes : (k : ℕ) → k < 4 → bit k (msr c) ≡ bit k c.modem.changes
  unfolding msr
  msr_changes = shows_changes c.modem.changes (inputs c)

  -- MSR bits 4 to 7 are CTS, DSR, RI and DCD, as the channel sees them
  pub msr_inputs : (k : ℕ) → k < 4 → bit (4 + k) (msr c) ≡ bit k (inputs c)
  unfolding msr
  msr_inputs = shows_inputs c.modem.changes (inputs c)

  -- which are the levels last given, outside loopback
  pub msr_levels : in_loopback c ≡ false → (k : ℕ) → k < 4 → bit (4 + k) (msr c) ≡ bit k c.modem.levels
  msr_levels clear k less = msr_inputs k less ∙ ap (bit k) (inputs_plain c.settings.mcr c.modem.levels clear)

  -- and the outputs in it
  pub msr_looped : in_loopback c ≡ true → ShowsOutputs c.settings.mcr (msr c)
  msr_looped set =
      let fed = inputs_looped c.settings.mcr c.modem.levels set in
      record {
        bit_4_is_rts = msr_inputs 0 (omega arith) ∙ fed.cts_by_rts;
        bit_5_is_dtr = msr_inputs 1 (omega arith) ∙ fed.dsr_by_dtr;
        bit_6_is_out1 = msr_inputs 2 (omega arith) ∙ fed.ri_by_out1;
        bit_7_is_out2 = msr_inputs 3 (omega arith) ∙ fed.dcd_by_out2;
      }

  -- and there are no more
  pub msr_byte : msr c < 0x100
  unfolding msr
  msr_byte = msr_small c.modem.changes (inputs c)

-- C0 beside a code
added : (mode : Bool) (n : ℕ) → n ≤ 12 → (n + pick mode 0xC0 0x00) % 16 ≡ n
unfolding pick
added true n small = omega arith
added false n small = omega arith

-- the low digit of the IIR is the code of the cause
pub iir_cause : (c : Channel) → iir c % 16 ≡ cause c
unfolding iir iir_of cause
iir_cause c = added (fifo c) (cause c) (cause_small _ _ _ _)

marked_as : (mode : Bool) (n : ℕ) → n ≤ 12
    → let m = n + pick mode 0xC0 0x00 in (bit 7 m ≡ mode) × (bit 6 m ≡ mode) × (bit 5 m ≡ false) × (bit 4 m ≡ false)
unfolding pick bit
marked_as true n small = (
  eq-eqb ((n + 0xC0) / 128 % 2) 1 (omega arith),
  eq-eqb ((n + 0xC0) / 64 % 2) 1 (omega arith),
  ne_eqb ((n + 0xC0) / 32 % 2) 1 (λ e. omega arith),
  ne_eqb ((n + 0xC0) / 16 % 2) 1 (λ e. omega arith),
)
marked_as false n small = (
  ne_eqb ((n + 0x00) / 128 % 2) 1 (λ e. omega arith),
  ne_eqb ((n + 0x00) / 64 % 2) 1 (λ e. omega arith),
  ne_eqb ((n + 0x00) / 32 % 2) 1 (λ e. omega arith),
  ne_eqb ((n + 0x00) / 16 % 2) 1 (λ e. omega arith),
)

-- its bits 7 and 6 are set exactly in FIFO mode, bits 5 and 4 never
pub iir_mode : (c : Channel) → (bit 7 (iir c) ≡ fifo c) × (bit 6 (iir c) ≡ fifo c) × (bit 5 (iir c) ≡ false) × (bit 4 (iir c) ≡ false)
unfolding iir iir_of cause
iir_mode c = marked_as (fifo c) (cause c) (cause_small _ _ _ _)
