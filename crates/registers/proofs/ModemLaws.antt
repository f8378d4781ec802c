-- The MSR and its change bits, bit by bit.
use Rattle.std.specs.Prelude.{ℕ, zero, suc, ◌+◌, ◌^◌, ◌<◌, Bool, true, not, ◌&&◌, ◌||◌, ◌≡◌, refl}
use Rattle.std.proofs.Math.Bool.{false, xor, and-false, or-true, or-false}
use Rattle.std.proofs.Math.Path.{ap}
use Rattle.std.proofs.Common.{sym, ◌∙◌, le_of_suc-le-suc, not-suc-le-zero, arith}
use Rattle.std.proofs.Math.Dec.{eqb}
use Rattle.base.specs.Bits.{bit}
use Rattle.base.proofs.BitLaws.{bit_bits, bits_small}
use Rattle.base.specs.PickLaws.{never}
use Rattle.registers.specs.Modem.{differ, changes_after, msr_of, some_change}

-- what holds at each number below four holds at every one
pub below_four : (P : ℕ → Type 0) → P 0 → P 1 → P 2 → P 3 → (k : ℕ) → k < 4 → P k
below_four P a b c d zero less = a
below_four P a b c d (suc zero) less = b
below_four P a b c d (suc (suc zero)) less = c
below_four P a b c d (suc (suc (suc zero))) less = d
below_four P a b c d (suc (suc (suc (suc k)))) less =
    absurd (not-suc-le-zero (le_of_suc-le-suc (le_of_suc-le-suc (le_of_suc-le-suc (le_of_suc-le-suc less)))))

-- exactly one of the two
pub differ_xor : (a b : Bool) → differ a b ≡ xor a b
unfolding xor
differ_xor true true = refl
differ_xor true false = refl
differ_xor false true = refl
differ_xor false false = refl

module _ (changes before after : ℕ) where
  -- CTS, DSR and DCD, bits 0, 1 and 3: set exactly if it stood or the input changed
  pub changed : (k : ℕ) → k < 4 → eqb k 2 ≡ false → bit k (changes_after changes before after) ≡ (bit k changes || xor (bit k before) (bit k after))
  unfolding changes_after
  changed =
      below_four (λ k. eqb k 2 ≡ false → bit k (changes_after changes before after) ≡ (bit k changes || xor (bit k before) (bit k after)))
      (λ other. bit_bits 0 _ ∙ ap (λ (d : Bool). bit 0 changes || d) (differ_xor (bit 0 before) (bit 0 after)))
      (λ other. bit_bits 1 _ ∙ ap (λ (d : Bool). bit 1 changes || d) (differ_xor (bit 1 before) (bit 1 after)))
      (λ ring. absurd (never (sym ring)))
      (λ other. bit_bits 3 _ ∙ ap (λ (d : Bool). bit 3 changes || d) (differ_xor (bit 3 before) (bit 3 after)))

  -- RI, bit 2: set exactly if it stood or the input went from active to inactive
  pub rung : bit 2 (changes_after changes before after) ≡ (bit 2 changes || (bit 2 before && not (bit 2 after)))
  unfolding changes_after
  rung = bit_bits 2 _

  -- so its fall is told, whatever stood; its rise, and a level that stays, leave what stood
  pub ring_falls : bit 2 before ≡ true → bit 2 after ≡ false → bit 2 (changes_after changes before after) ≡ true
  ring_falls active inactive = rung ∙ (λ i. bit 2 changes || (active i && not (inactive i))) ∙ or-true (bit 2 changes)

  pub ring_rises : bit 2 after ≡ true → bit 2 (changes_after changes before after) ≡ bit 2 changes
  ring_rises active =
      rung ∙ (λ i. bit 2 changes || (bit 2 before && not (active i))) ∙ ap (λ (b : Bool). bit 2 changes || b) (and-false (bit 2 before))
      ∙ or-false (bit 2 changes)

  pub ring_low : bit 2 before ≡ false → bit 2 (changes_after changes before after) ≡ bit 2 changes
  ring_low inactive = rung ∙ (λ i. bit 2 changes || (inactive i && not (bit 2 after))) ∙ or-false (bit 2 changes)

  -- and there are no more than these four
  pub changes_small : changes_after changes before after < 2 ^ 4
  unfolding changes_after
  changes_small = bits_small _

module _ (changes inputs : ℕ) where
  -- MSR bits 0 to 3 are the changes that stand
  pub shows_changes : (k : ℕ) → k < 4 → bit k (msr_of changes inputs) ≡ bit k changes
  unfolding msr_of
  shows_changes = below_four (λ k. bit k (msr_of changes inputs) ≡ bit k changes) (bit_bits 0 _) (bit_bits 1 _) (bit_bits 2 _) (bit_bits 3 _)

  -- MSR bits 4 to 7 are CTS, DSR, RI and DCD
  pub shows_inputs : (k : ℕ) → k < 4 → bit (4 + k) (msr_of changes inputs) ≡ bit k inputs
  unfolding msr_of
  shows_inputs = below_four (λ k. bit (4 + k) (msr_of changes inputs) ≡ bit k inputs) (bit_bits 4 _) (bit_bits 5 _) (bit_bits 6 _) (bit_bits 7 _)

  -- and there are no more
  pub msr_small : msr_of changes inputs < 0x100
  unfolding msr_of
  msr_small = bits_small _

  -- "any of MSR 0-3": asked of the changes that stand
  pub modem_changed : some_change (msr_of changes inputs) ≡ some_change changes
  unfolding some_change
  modem_changed =
      (λ i. shows_changes 0 (omega arith) i || shows_changes 1 (omega arith) i || shows_changes 2 (omega arith) i || shows_changes 3 (omega arith) i)
