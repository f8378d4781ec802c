-- The bits of a number, from the highest down: one more, and what is made of them.
use Prim.Native.Nat.{ℕ, zero, suc, ◌-◌, ◌<◌}
use mathlib.Core.Bool.{Bool}
use mathlib.Core.List.{List, ◌++◌}
use mathlib.Core.Path.{◌≡◌, refl, sym, ap, ap₂, ◌∙◌}
use native.Mathlib.Omega.{arith}
use Rattle.base.specs.Bits.{bit}
use Rattle.text.specs.Quoted.{quoted}
use Rattle.sight.specs.Sights.{look_at}
use Rattle.timeline.specs.Variables.{down_from, bit_name, bit_word, of_number, of_seat}
use Rattle.timeline.specs.Dump.{declaration, declarations, bit_declarations, change, bit_changes, told}
use Rattle.sight.specs.declared.Sight.{Sight}
use Rattle.timeline.proofs.Scopes.{declared_append, told_append}

highest : {A : Type 0} (k : ℕ) (f : ℕ → List A) → 0 < k → down_from k f ≡ f (k - 1) ++ down_from (k - 1) f
unfolding down_from
highest zero f some = absurd (omega arith)
highest (suc k) f some = let e : suc k - 1 ≡ k = omega arith in rw e

-- what a loop from the highest bit down has still to say, one bit later
pub one_down : {A : Type 0} (say : A → List ℕ → A) (append : (p : A) (first then : List ℕ) → say p (first ++ then) ≡ say (say p first) then)
    (words : ℕ → List ℕ) (k : ℕ) {p q whole : A} → 0 < k → q ≡ say p (words (k - 1)) → say p (down_from k words) ≡ whole
    → say q (down_from (k - 1) words) ≡ whole
one_down {A} say append words k {p} some here left =
    ap (λ (x : A). say x (down_from (k - 1) words)) here ∙ sym (append p (words (k - 1)) (down_from (k - 1) words)) ∙ ap (say p) (sym (highest k words some)) ∙ left

module _ (letter word : List ℕ) (number : Sight → ℕ) (n : ℕ) where
  pub declared_number : (width : ℕ) → declarations (of_number letter word number n width) ≡ bit_declarations letter word n width
  unfolding down_from declarations bit_declarations
  declared_number zero = refl
  declared_number (suc k) = ap (λ (l : List ℕ). declaration (bit_name letter n k) (bit_word word n k) ++ l) (declared_number k)

  pub told_number : (all : Bool) (before now : Sight) (width : ℕ)
      → told all before now (of_number letter word number n width) ≡ bit_changes all letter n width (number before) (number now)
  unfolding down_from told bit_changes
  told_number all before now zero = refl
  told_number all before now (suc k) =
      ap (λ (l : List ℕ). change all (bit k (number before)) (bit k (number now)) (bit_name letter n k) ++ l) (told_number all before now k)

-- ---- the two numbers of a seat

pub declared_seat : (n : ℕ)
    → declarations (of_seat n) ≡ bit_declarations (quoted "L") (quoted "lsr") n 8 ++ bit_declarations (quoted "q") (quoted "queued") n 5
unfolding of_seat
declared_seat n =
    declared_append (of_number (quoted "L") (quoted "lsr") (λ s. (look_at s n).lsr) n 8) (of_number (quoted "q") (quoted "queued") (λ s. (look_at s n).queued) n 5)
    ∙ ap₂ ◌++◌ (declared_number (quoted "L") (quoted "lsr") (λ s. (look_at s n).lsr) n 8) (declared_number (quoted "q") (quoted "queued") (λ s. (look_at s n).queued) n 5)

pub told_seat : (all : Bool) (before now : Sight) (n : ℕ)
    → told all before now (of_seat n)
    ≡ bit_changes all (quoted "L") n 8 (look_at before n).lsr (look_at now n).lsr ++ bit_changes all (quoted "q") n 5 (look_at before n).queued (look_at now n).queued
unfolding of_seat
told_seat all before now n =
    told_append all before now (of_number (quoted "L") (quoted "lsr") (λ s. (look_at s n).lsr) n 8) (of_number (quoted "q") (quoted "queued") (λ s. (look_at s n).queued) n 5)
    ∙ ap₂ ◌++◌ (told_number (quoted "L") (quoted "lsr") (λ s. (look_at s n).lsr) n all before now 8) (told_number (quoted "q") (quoted "queued") (λ s. (look_at s n).queued) n all before now 5)
