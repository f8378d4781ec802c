-- A word is told from every other by its bytes.
use Rattle.std.specs.Prelude.{ℕ, Bool, true, false, List, [], ◌∷◌, ◌≡◌, refl, eqb}
use Rattle.std.proofs.Common.{⊎_elim, sym, ap, ◌∙◌, eqb-true, eq-eqb}
use Rattle.base.specs.PickLaws.{both_hold, either_way, never}
use Rattle.options.specs.Moments.{same_bytes}

pub same_self : (word : List ℕ) → same_bytes word word ≡ true
unfolding same_bytes
same_self [] = refl
same_self (c ∷ word) = rw (eq-eqb c c refl, same_self word)

pub same_only : (word other : List ℕ) → same_bytes word other ≡ true → word ≡ other
unfolding same_bytes
same_only [] [] h = refl
same_only [] (b ∷ other) h = absurd (never h)
same_only (a ∷ word) [] h = absurd (never h)
same_only (a ∷ word) (b ∷ other) h =
    let two : _ = both_hold (eqb a b) (same_bytes word other) h in
    let first : a ≡ b = eqb-true a b two.0 in
    let rest : word ≡ other = same_only word other two.1 in
    cc

-- any test that tells so is this one
pub same_told : (r : Bool) (word other : List ℕ) → (r ≡ true → word ≡ other) × (word ≡ other → r ≡ true) → r ≡ same_bytes word other
same_told true word other h = sym (ap (λ (l : List ℕ). same_bytes l other) (h.0 refl) ∙ same_self other)
same_told false word other h =
    ⊎_elim
    (λ (t : same_bytes word other ≡ true). absurd (never (h.1 (same_only word other t))))
    (λ (f : same_bytes word other ≡ false). sym f)
    (either_way (same_bytes word other))
