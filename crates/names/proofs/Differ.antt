-- What is told in other words is another thing.
use Prim.Native.Nat.{ℕ, ◌/◌, ◌%◌, ◌<◌}
use mathlib.Core.Bool.{Bool, true, false, not, ◌&&◌, ◌||◌}
use mathlib.Core.List.{List, [], ◌∷◌}
use mathlib.Core.Logic.{⊎_elim}
use mathlib.Core.Path.{◌≡◌, refl, sym, ap, ◌∙◌}
use native.Mathlib.Omega.{arith}
use lib.Dec.{T, eqb}
use lib.ListN.{get_or}
use borrow.Author.Tests.{eq-eqb, eqb-true}
use Rattle.base.specs.Pick.{pick}
use Rattle.base.specs.PickLaws.{either_way}
use Rattle.base.specs.Every.{every}
use Rattle.base.specs.EveryLaws.{every_at}
use Rattle.text.specs.Line.{capital}
use Rattle.text.proofs.FormLaws.{hex_denoted, capital_denotes}
use Rattle.page.specs.Pieces.{hex}
use Rattle.names.specs.Words.{later_words, refusal_words, iir_words, lsr_said, msr_said}
use Rattle.names.specs.Differ.{RefusalsDiffer, BytesDiffer}

-- ---- two texts byte by byte

abbrev same : List ℕ → List ℕ → Bool
same [] [] = true
same [] (y ∷ l) = false
same (x ∷ k) [] = false
same (x ∷ k) (y ∷ l) = eqb x y && same k l

same_self : (l : List ℕ) → same l l ≡ true
same_self [] = refl
same_self (x ∷ l) = rw (eq-eqb x x refl, same_self l)

-- of these two numbers: they are the same, or are told in other words
abbrev apart : ℕ → ℕ → Bool
apart m n = eqb m n || not (same (refusal_words m) (refusal_words n))

all_apart : T (every 20 (λ m. every 20 (λ n. apart m n)))
unfolding later_words refusal_words pick
all_apart = tt

from_apart : (m n : ℕ) → T (apart m n) → refusal_words m ≡ refusal_words n → m ≡ n
from_apart m n t alike =
    let told : same (refusal_words m) (refusal_words n) ≡ true
    = ap (λ (l : List ℕ). same (refusal_words m) l) (sym alike) ∙ same_self (refusal_words m) in
    ⊎_elim (λ (yes : eqb m n ≡ true). eqb-true m n yes) (λ (no : eqb m n ≡ false). absurd (rw (no, told) at t)) (either_way (eqb m n))

pub refusals_differ : RefusalsDiffer
refusals_differ m n small-m small_n alike =
    from_apart m n
    (every_at 20 (λ n. apart m n) (every_at 20 (λ m. every 20 (λ n. apart m n)) all_apart m small-m) n small_n)
    alike

-- ---- bytes by their two digits

by_digits : (a b : ℕ) → a < 256 → b < 256 → capital (a / 16 % 16) ≡ capital (b / 16 % 16) → capital (a % 16) ≡ capital (b % 16) → a ≡ b
by_digits a b small-a small_b high low =
    let h : a / 16 % 16 ≡ b / 16 % 16
    = sym (capital_denotes (a / 16 % 16) (omega arith)) ∙ ap (λ (c : ℕ). hex_denoted c) high ∙ capital_denotes (b / 16 % 16) (omega arith) in
    let l : a % 16 ≡ b % 16
    = sym (capital_denotes (a % 16) (omega arith)) ∙ ap (λ (c : ℕ). hex_denoted c) low ∙ capital_denotes (b % 16) (omega arith) in
    omega arith

-- the fifth and the sixth character
module _ (words : ℕ → List ℕ) (high : (n : ℕ) → get_or (words n) 4 0 ≡ capital (n / 16 % 16)) (low : (n : ℕ) → get_or (words n) 5 0 ≡ capital (n % 16)) where
  told_by_lem : (a b : ℕ) → a < 256 → b < 256 → words a ≡ words b → a ≡ b
  told_by_lem a b small-a small_b alike =
      by_digits a b small-a small_b
      (sym (high a) ∙ ap (λ (l : List ℕ). get_or l 4 0) alike ∙ high b)
      (sym (low a) ∙ ap (λ (l : List ℕ). get_or l 5 0) alike ∙ low b)

pub bytes_differ : BytesDiffer
unfolding iir_words lsr_said msr_said hex
bytes_differ = record {
  iir = told_by_lem iir_words (λ n. refl) (λ n. refl);
  lsr = told_by_lem lsr_said (λ n. refl) (λ n. refl);
  msr = told_by_lem msr_said (λ n. refl) (λ n. refl);
}
