-- The modem outputs bit by bit, and what a write of MCR makes of them.
use Rattle.std.specs.Prelude.{ℕ, ◌%◌, ◌^◌, ◌<◌, ◌≤◌, true, false, ◌≡◌}
use mathlib.Core.List.{[], ◌∷◌}
use Rattle.std.proofs.Math.Path.{ap}
use Rattle.std.proofs.Common.{◌∙◌, pow_pos, le-leb}
use Rattle.std.proofs.lemmas.Bool.{lt-leb}
use Rattle.base.specs.Pick.{pick}
use Rattle.base.specs.PickLaws.{pick_true, pick_false, pick_either}
use Rattle.base.specs.Bits.{bit, bits}
use Rattle.base.proofs.BitLaws.{bit_bits, bits_small, bit_cut, low_four}
use Rattle.base.specs.Refusals.{first_of, refusal_by}
use Rattle.base.specs.declared.Answer.TheVariants.{Byte, Refused}
use Rattle.registers.specs.Registers.{mcr_kept}
use Rattle.registers.specs.Loopback.{looped}
use Rattle.records.specs.Events.{seat_count}
use Rattle.c_bench.specs.Outputs.{dtr, rts, out1, out2, outputs, outputs_of}

module _ (mcr : ℕ) where
  -- in loopback none is active
  pub outputs_looped : looped mcr ≡ true → outputs mcr ≡ 0
  unfolding outputs
  outputs_looped inside = pick_true _ _ _ inside

  -- outside it they are MCR's lower four bits, in MCR's own order: DTR, RTS, OUT1 and OUT2
  pub outputs_low : looped mcr ≡ false → outputs mcr ≡ mcr % 2 ^ 4
  unfolding outputs
  outputs_low outside = pick_false _ _ _ outside ∙ low_four mcr

  -- each in its own bit
  pub output_bits : looped mcr ≡ false
      → (bit 0 (outputs mcr) ≡ dtr mcr) × (bit 1 (outputs mcr) ≡ rts mcr) × (bit 2 (outputs mcr) ≡ out1 mcr) × (bit 3 (outputs mcr) ≡ out2 mcr)
  unfolding outputs
  output_bits outside =
      let four = dtr mcr ∷ rts mcr ∷ out1 mcr ∷ out2 mcr ∷ [] in
      let told : outputs mcr ≡ bits four = pick_false _ _ _ outside in
      (ap (bit 0) told ∙ bit_bits 0 four, ap (bit 1) told ∙ bit_bits 1 four, ap (bit 2) told ∙ bit_bits 2 four, ap (bit 3) told ∙ bit_bits 3 four)

  -- and nothing above them
  pub outputs_small : outputs mcr < 2 ^ 4
  unfolding outputs
  outputs_small =
      pick_either (λ (n : ℕ). n < 2 ^ 4) (looped mcr) _ _ (pow_pos 4) (bits_small (dtr mcr ∷ rts mcr ∷ out1 mcr ∷ out2 mcr ∷ []))

-- "MCR its low 5": what is kept of a byte has the outputs of the byte
pub outputs_written : (byte : ℕ) → outputs (mcr_kept byte) ≡ outputs byte
unfolding outputs
outputs_written byte = rw (bit_cut 0 5 byte, bit_cut 1 5 byte, bit_cut 2 5 byte, bit_cut 3 5 byte, bit_cut 4 5 byte)

-- a seat that is there is answered, and "seat (or line) above 7" refused
pub outputs_told : (mcr n : ℕ) → n < seat_count → outputs_of mcr n ≡ Byte (outputs mcr)
unfolding outputs_of refusal_by first_of pick
outputs_told mcr n there = rw (lt-leb seat_count n there)

pub outputs_refused : (mcr n : ℕ) → seat_count ≤ n → outputs_of mcr n ≡ Refused 1
unfolding outputs_of refusal_by first_of pick
outputs_refused mcr n above = rw (le-leb seat_count n above)
