-- Between two characters; decimal digits among the hexadecimal ones; and what is a digit or none.
use Rattle.std.specs.Prelude.{ℕ, ◌-◌, ◌≤◌, ◌<◌, true, false, ◌≡◌, refl, leb, ltb, Option, Some, None}
use Rattle.std.specs.Option.{is_some}
use Rattle.std.proofs.Common.{arith, leb-true, le-leb, ltb-true, ltb-false}
use Rattle.base.specs.PickLaws.{both_hold, pick_true, pick_cases}
use Rattle.base.specs.Pick.{pick}
use Rattle.text.specs.Hex.{within, digit, digit_of}

pub inside : (low high c : ℕ) → within low high c ≡ true → (low ≤ c) × (c ≤ high)
inside low high c e =
    let both : _ = both_hold (leb low c) (leb c high) e in
    (leb-true low c both.0, leb-true c high both.1)

pub numeral_worth : (c : ℕ) → 48 ≤ c → c ≤ 57 → digit c ≡ c - 48
unfolding digit
numeral_worth c low high = pick_true _ _ _ (rw (le-leb 48 c low) (le-leb c 57 high))

-- a character that is worth so little
abbrev Numeral : ℕ → ℕ → Type 0
Numeral c worth = worth < 10 → (48 ≤ c) × (c ≤ 57)

pub worth_numeral : (c : ℕ) → Numeral c (digit c)
unfolding digit
worth_numeral c =
    pick_cases (Numeral c) (within 48 57 c) _ _ (λ t h. inside 48 57 c t)
    (λ f.
    pick_cases (Numeral c) (within 65 70 c) _ _ (λ t h. absurd (omega arith))
    (λ g. pick_cases (Numeral c) (within 97 102 c) _ _ (λ t h. absurd (omega arith)) (λ o h. absurd (omega arith))))

-- ---- the worth of a digit, where there is one

pub worth_most : (c : ℕ) → digit c ≤ 16
unfolding digit
worth_most c =
    let Small : ℕ → Type 0 = λ d. d ≤ 16 in
    pick_cases Small (within 48 57 c) _ _ (λ t. omega (arith, inside 48 57 c t))
    (λ f.
    pick_cases Small (within 65 70 c) _ _ (λ t. omega (arith, inside 65 70 c t))
    (λ g. pick_cases Small (within 97 102 c) _ _ (λ t. omega (arith, inside 97 102 c t)) (λ o. omega arith)))

pub digit_found : (c : ℕ) → is_some (digit_of c) ≡ ltb (digit c) 16
unfolding digit_of pick
digit_found c = elim (ltb (digit c) 16) as (λ b. is_some (pick b (Some (digit c)) None) ≡ b) [ true ↦ refl | false ↦ refl ]

pub digit_some : (c d : ℕ) → Some d ≡ digit_of c → (d ≡ digit c) × (d < 16)
unfolding digit_of
digit_some c d =
    pick_cases (λ (o : Option ℕ). Some d ≡ o → (d ≡ digit c) × (d < 16)) (ltb (digit c) 16) (Some (digit c)) None
    (λ t e. let same : d ≡ digit c = cc in (same, omega (arith, ltb-true (digit c) 16 t, same)))
    (λ f e. absurd (cc))

pub digit_none : (c : ℕ) → None ≡ digit_of c → digit c ≡ 16
unfolding digit_of
digit_none c =
    pick_cases (λ (o : Option ℕ). None ≡ o → digit c ≡ 16) (ltb (digit c) 16) (Some (digit c)) None
    (λ t e. absurd (cc)) (λ f e. omega (arith, ltb-false (digit c) 16 f, worth_most c))
