-- The worth of a character by where it stands among the digits.
use Rattle.std.specs.Prelude.{ℕ, ◌+◌, ◌-◌, ◌≤◌, ◌<◌, true, false, Some, None, ◌≡◌, ltb}
use Rattle.std.proofs.Common.{sym, ap, ◌∙◌, ⊎_elim, arith, le-leb, lt-ltb}
use Rattle.base.specs.PickLaws.{pick_true, pick_false, either_way}
use Rattle.text.specs.Hex.{within, digit, digit_of}
use Rattle.text.specs.HexLaws.{inside}

inside_so : (low high c : ℕ) → low ≤ c → c ≤ high → within low high c ≡ true
inside_so low high c l h = rw (le-leb low c l) (le-leb c high h)

outside : (low high c : ℕ) → (low ≤ c → c ≤ high → ⊥) → within low high c ≡ false
outside low high c none =
    ⊎_elim
    (λ (t : within low high c ≡ true).
    let both : (low ≤ c) × (c ≤ high) = inside low high c t in absurd (none both.0 both.1))
    (λ (f : within low high c ≡ false). f)
    (either_way (within low high c))

some_of : (c d : ℕ) → digit c ≡ d → d < 16 → Some d ≡ digit_of c
unfolding digit_of
some_of c d is small =
    let low : ltb (digit c) 16 ≡ true = lt-ltb (digit c) 16 (omega arith) in
    sym (pick_true _ _ _ low ∙ ap Some is)

pub of_numeral : (c : ℕ) → 48 ≤ c → c ≤ 57 → Some (c - 48) ≡ digit_of c
unfolding digit
of_numeral c low high = some_of c (c - 48) (pick_true _ _ _ (inside_so 48 57 c low high)) (omega arith)

pub of_capital : (c : ℕ) → 65 ≤ c → c ≤ 70 → Some (c - 65 + 10) ≡ digit_of c
unfolding digit
of_capital c low high =
    let no : within 48 57 c ≡ false = outside 48 57 c (λ l h. omega arith) in
    some_of c (c - 65 + 10) (pick_false _ _ _ no ∙ pick_true _ _ _ (inside_so 65 70 c low high)) (omega arith)

pub of_small : (c : ℕ) → 97 ≤ c → c ≤ 102 → Some (c - 97 + 10) ≡ digit_of c
unfolding digit
of_small c low high =
    let no : within 48 57 c ≡ false = outside 48 57 c (λ l h. omega arith) in
    let nor : within 65 70 c ≡ false = outside 65 70 c (λ l h. omega arith) in
    some_of c (c - 97 + 10) (pick_false _ _ _ no ∙ pick_false _ _ _ nor ∙ pick_true _ _ _ (inside_so 97 102 c low high)) (omega arith)

-- a character outside all three
pub of_none : (c : ℕ) → (48 ≤ c → c ≤ 57 → ⊥) → (65 ≤ c → c ≤ 70 → ⊥) → (97 ≤ c → c ≤ 102 → ⊥) → None ≡ digit_of c
unfolding digit digit_of
of_none c numeral capital small =
    let none : digit c ≡ 16 =
    pick_false _ _ _ (outside 48 57 c numeral) ∙ pick_false _ _ _ (outside 65 70 c capital) ∙ pick_false _ _ _ (outside 97 102 c small) in
    let large : ltb (digit c) 16 ≡ false = rw none in
    sym (pick_false _ _ _ large)
