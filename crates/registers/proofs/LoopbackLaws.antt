-- The modem inputs as the channel sees them, bit by bit; and inputs that stay, which change nothing.
use Rattle.std.specs.Prelude.{ℕ, ◌<◌, Bool, true, false, not, ◌&&◌, ◌||◌, [], ◌∷◌, ◌≡◌}
use Rattle.std.proofs.Math.Bool.{or-false}
use Rattle.std.proofs.Common.{sym, ◌∙◌, mod-eq_of_lt}
use Rattle.std.proofs.Math.Path.{subst}
use Rattle.base.specs.PickLaws.{pick_true, pick_false}
use Rattle.base.specs.Bits.{bit, bits}
use Rattle.base.proofs.BitLaws.{bit_bits, low_four}
use Rattle.registers.specs.Modem.{differ, changes_after}
use Rattle.registers.specs.Loopback.{looped, fed_back, inputs_of}

-- document 004: ‘When the serial channel is in the loop mode (MCR4 is set), MSR4 reflects the value of RTS in the MCR.’; MSR5 reflects DTR, MSR6 OUT1
-- and MSR7 OUT2: of the inputs, bits 0 to 3
pub record Fed (mcr inputs : ℕ) : Type 0 where
  pub cts_by_rts : bit 0 inputs ≡ bit 1 mcr
  pub dsr_by_dtr : bit 1 inputs ≡ bit 0 mcr
  pub ri_by_out1 : bit 2 inputs ≡ bit 2 mcr
  pub dcd_by_out2 : bit 3 inputs ≡ bit 3 mcr

module _ (mcr levels : ℕ) where
  fed_back_lem : Fed mcr (fed_back mcr)
  fed_back_lem =
      let four = bit 1 mcr ∷ bit 0 mcr ∷ bit 2 mcr ∷ bit 3 mcr ∷ [] in
      record { cts_by_rts = bit_bits 0 four; dsr_by_dtr = bit_bits 1 four; ri_by_out1 = bit_bits 2 four; dcd_by_out2 = bit_bits 3 four }

  -- in loopback the levels given have no part in them
  pub inputs_looped : looped mcr ≡ true → Fed mcr (inputs_of mcr levels)
  unfolding inputs_of
  inputs_looped set = subst (Fed mcr) (sym (pick_true _ _ _ set)) fed_back_lem

  -- and outside it the outputs have none
  pub inputs_plain : looped mcr ≡ false → inputs_of mcr levels ≡ levels
  unfolding inputs_of
  inputs_plain clear = pick_false _ _ _ clear

-- whatever levels are given in loopback, the inputs are the same
pub inputs_remembered : (mcr levels others : ℕ) → looped mcr ≡ true → inputs_of mcr levels ≡ inputs_of mcr others
unfolding inputs_of
inputs_remembered mcr levels others set = pick_true _ _ _ set ∙ sym (pick_true _ _ _ set)

same_bit : (stood b : Bool) → (stood || differ b b) ≡ stood
same_bit stood true = or-false stood
same_bit stood false = or-false stood

never_falls : (stood b : Bool) → (stood || (b && not b)) ≡ stood
never_falls stood true = or-false stood
never_falls stood false = or-false stood

-- "bits 0, 1, 3 set when CTS, DSR, DCD change; bit 2 when RI goes from active to inactive": inputs that stay set none
pub unchanged : (changes inputs : ℕ) → changes < 16 → changes_after changes inputs inputs ≡ changes
unfolding changes_after
unchanged changes inputs few =
    (λ i.
    bits
    (same_bit (bit 0 changes) (bit 0 inputs) i
    ∷ same_bit (bit 1 changes) (bit 1 inputs) i
    ∷ never_falls (bit 2 changes) (bit 2 inputs) i
    ∷ same_bit (bit 3 changes) (bit 3 inputs) i
    ∷ []))
    ∙ low_four changes
    ∙ mod-eq_of_lt few
