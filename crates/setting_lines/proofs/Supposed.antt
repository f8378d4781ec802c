-- Small facts that the code of a guess needs.
use Rattle.std.specs.Prelude.{Option, Some, None, slice_get, unwrap_or}
use Rattle.std.proofs.lemmas.Option.{unwrap_or-slice_get}
use mir.Val.{bool_byte}
use Prim.Native.Nat.{ℕ, ◌-◌, ◌*◌, ◌≤◌}
use mathlib.Core.Bool.{Bool, true, false, ◌||◌}
use mathlib.Core.List.{List}
use mathlib.Core.Logic.{◌⊎◌, inl, inr, ⊎_elim}
use mathlib.Core.Path.{◌≡◌, refl, ap, sym, ◌∙◌}
use native.Mathlib.Omega.{arith}
use lib.Dec.{eqb, ltb}
use borrow.Author.Tests.{eq-eqb, ne_eqb, eqb-false, ltb-false, le-ltb}
use lib.ListN.{length, get_or}
use Rattle.base.specs.Pick.{pick}
use Rattle.base.specs.PickLaws.{pick_true, pick_false, pick_le, pick_either, either_way}
use Rattle.base.specs.Bits.{digit}
use Rattle.text.proofs.FormLaws.{denoted}
use Rattle.setting_lines.specs.Guess.{behind_rate, code_by, halved, rate_guess}

-- the last byte, where there is one
module _ (line : List ℕ) where
  last_is : (o : Option ℕ) → o ≡ slice_get line (length line - 1) → get_or line (length line - 1) 0 ≡ unwrap_or o 0
  last_is o is = sym (unwrap_or-slice_get line (length line - 1) 0) ∙ ap (λ (p : Option ℕ). unwrap_or p 0) (sym is)

  pub ends_5 : (c : ℕ) → Some c ≡ slice_get line (length line - 1) → c ≡ 53 → 8 ≡ behind_rate line
  unfolding behind_rate
  ends_5 c is same = sym (pick_true _ _ _ (eq-eqb _ _ (last_is (Some c) is ∙ same)))

  pub ends_other : (c : ℕ) → Some c ≡ slice_get line (length line - 1) → (c ≡ 53 → ⊥) → 6 ≡ behind_rate line
  unfolding behind_rate
  ends_other c is other = sym (pick_false _ _ _ (ne_eqb _ _ (λ e. other (sym (last_is (Some c) is) ∙ e))))

  pub ends_none : None ≡ slice_get line (length line - 1) → 6 ≡ behind_rate line
  unfolding behind_rate
  ends_none is = sym (pick_false _ _ _ (ne_eqb _ _ (λ e. omega (arith, last_is None is))))

-- at least `,N,5,1` stands behind the rate
pub behind_least : (line : List ℕ) → 6 ≤ behind_rate line
unfolding behind_rate
behind_least line = pick_either (λ (n : ℕ). 6 ≤ n) (eqb (get_or line (length line - 1) 0) 53) 8 6 (omega arith) (omega arith)

-- a `bool` as a number is its digit
pub as_digit : (b : Bool) → bool_byte b ≡ digit b
unfolding digit pick
as_digit true = refl
as_digit false = refl

pub flag_small : (b : Bool) → bool_byte b ≤ 1
flag_small true = omega arith
flag_small false = omega arith

pub code_small : (c : ℕ) → code_by c ≤ 7
unfolding code_by
code_small c = pick_le (eqb c 79) _ _ 7 (omega arith) (pick_le (eqb c 69) _ _ 7 (omega arith) (pick_le (eqb c 77) _ _ 7 (omega arith) (pick_le (eqb c 83) _ _ 7 (omega arith) (omega arith))))

-- what the code finds of the stop
pub is_longer : (behind c : ℕ) (longer : Bool) → ((behind ≡ 8) × (longer ≡ eqb behind 8)) ⊎ ((behind ≡ 8 → ⊥) × (longer ≡ eqb c 50))
    → longer ≡ (eqb behind 8 || eqb c 50)
is_longer behind c longer (inl (same, is)) = rw (eq-eqb behind 8 same) (is ∙ eq-eqb behind 8 same)
is_longer behind c longer (inr (other, is)) = rw (ne_eqb behind 8 other) is

-- ---- the rate of a front, by the number that it denotes

module _ (front : List ℕ) (n : ℕ) (whole : halved front ≡ false) (is : n ≡ denoted 0 front) where
  pub guessed_whole : 1 ≤ n → n ≤ 99999 → 10 * n ≡ rate_guess front
  unfolding rate_guess
  guessed_whole some few =
      sym (pick_false _ _ _ whole ∙ pick_false _ _ _ (le-ltb _ _ (omega arith)) ∙ pick_false _ _ _ (ne_eqb _ _ (λ e. omega arith)) ∙ ap (λ (m : ℕ). 10 * m) (sym is))

  pub guessed_10 : (1 ≤ n → n ≤ 99999 → ⊥) → 10 ≡ rate_guess front
  unfolding rate_guess
  guessed_10 none =
      ⊎_elim
      (λ (t : ltb 99999 (denoted 0 front) ≡ true). sym (pick_false _ _ _ whole ∙ pick_true _ _ _ t))
      (λ (f : ltb 99999 (denoted 0 front) ≡ false).
      ⊎_elim
      (λ (z : eqb (denoted 0 front) 0 ≡ true). sym (pick_false _ _ _ whole ∙ pick_false _ _ _ f ∙ pick_true _ _ _ z))
      (λ (o : eqb (denoted 0 front) 0 ≡ false).
      let other = eqb-false _ _ o in
      let few = ltb-false _ _ f in absurd (none (omega arith) (omega arith)))
      (either_way (eqb (denoted 0 front) 0)))
      (either_way (ltb 99999 (denoted 0 front)))
