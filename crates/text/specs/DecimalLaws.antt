-- Decimal digits denote their number, with no zero in front; three capitals denote a number below 4096.
use Rattle.std.specs.Prelude.{ℕ, zero, suc, ◌+◌, ◌*◌, ◌/◌, ◌%◌, ◌^◌, ◌≤◌, ◌<◌, ◌≡◌, refl, true, false, List, [], ◌∷◌, ◌++◌, length, ltb}
use Rattle.std.proofs.Common.{sym, ap, ◌∙◌, ⊎_elim, arith, pow-suc, length-append, lt-ltb, le-ltb, ltb-true, ltb-false}
use Rattle.base.specs.PickLaws.{pick_true, pick_false, either_way}
use Rattle.text.specs.Line.{numeral, digits_within, decimal}
use Rattle.text.specs.Front.{front}

-- with enough digits to spare the text is the same
within_same : (k m n : ℕ) → n ≤ k → n ≤ m → digits_within k n ≡ digits_within m n
unfolding digits_within
within_same zero zero n h g = refl
within_same zero (suc m) n h g = rw (pick_true _ _ _ (lt-ltb n 10 (omega arith)))
within_same (suc k) zero n h g = rw (pick_true _ _ _ (lt-ltb n 10 (omega arith)))
within_same (suc k) (suc m) n h g =
    ⊎_elim
    (λ (t : ltb n 10 ≡ true). rw (t, pick_true, pick_true))
    (λ (f : ltb n 10 ≡ false).
    let l : 10 ≤ n = ltb-false n 10 f in rw (within_same k m (n / 10) (omega arith) (omega arith)))
    (either_way (ltb n 10))

pub decimal_small : (n : ℕ) → n < 10 → decimal n ≡ numeral n ∷ []
unfolding decimal digits_within
decimal_small zero h = refl
decimal_small (suc n) h = pick_true _ _ _ (lt-ltb (suc n) 10 h)

pub decimal_large : (n : ℕ) → 10 ≤ n → decimal n ≡ decimal (n / 10) ++ (numeral (n % 10) ∷ [])
unfolding decimal digits_within
decimal_large zero h = absurd (omega arith)
decimal_large (suc n) h =
    pick_false _ _ _ (le-ltb (suc n) 10 h)
    ∙ ap (λ (l : List ℕ). l ++ (numeral (suc n % 10) ∷ [])) (within_same n (suc n / 10) (suc n / 10) (omega arith) (omega arith))

pub length_small : (n : ℕ) → n < 10 → length (decimal n) ≡ 1
length_small n h = rw (decimal_small n h)

pub length_large : (n : ℕ) → 10 ≤ n → length (decimal n) ≡ length (decimal (n / 10)) + 1
length_large n h = rw (decimal_large n h, length-append)

-- a number below 10 ^ (d + 1) has at most d + 1 digits
pub decimal_length : (d n : ℕ) → n < 10 ^ suc d → length (decimal n) ≤ suc d
decimal_length zero n h = rw (decimal_small n h) (omega arith)
decimal_length (suc d) n h =
    ⊎_elim
    (λ (t : ltb n 10 ≡ true). rw (decimal_small n (ltb-true n 10 t)) (omega arith))
    (λ (f : ltb n 10 ≡ false).
    let l : 10 ≤ n = ltb-false n 10 f in
    let b : n < 10 ^ suc d * 10 = rw (← pow-suc 10 (suc d)) h in
    let i : length (decimal (n / 10)) ≤ suc d = decimal_length d (n / 10) (omega arith) in
    rw (decimal_large n l, length-append) (omega arith))
    (either_way (ltb n 10))

-- ---- the digits before the last

pub front_none : (n : ℕ) → n < 10 → front n ≡ []
unfolding front
front_none n h = pick_true _ _ _ (lt-ltb n 10 h)

pub front_tens : (n : ℕ) → 10 ≤ n → front n ≡ decimal (n / 10)
unfolding front
front_tens n h = pick_false _ _ _ (le-ltb n 10 h)

pub decimal_front : (n : ℕ) → decimal n ≡ front n ++ (numeral (n % 10) ∷ [])
decimal_front n =
    ⊎_elim
    (λ (t : ltb n 10 ≡ true).
    let l : n < 10 = ltb-true n 10 t in
    let e : n % 10 ≡ n = omega arith in
    rw (front_none n l, e) (decimal_small n l))
    (λ (f : ltb n 10 ≡ false).
    let l : 10 ≤ n = ltb-false n 10 f in rw (front_tens n l) (decimal_large n l))
    (either_way (ltb n 10))

pub front_length : (n : ℕ) → length (decimal n) ≡ length (front n) + 1
front_length n = rw (decimal_front n, length-append)

-- the next number has the same, unless it begins a new ten
pub front_same : (n : ℕ) → ((n + 1) % 10 ≡ 0 → ⊥) → front n ≡ front (n + 1)
front_same n within =
    ⊎_elim
    (λ (t : ltb n 10 ≡ true).
    let l : n < 10 = ltb-true n 10 t in
    let m : n + 1 < 10 = omega (arith, within) in
    front_none n l ∙ sym (front_none (n + 1) m))
    (λ (f : ltb n 10 ≡ false).
    let l : 10 ≤ n = ltb-false n 10 f in
    let e : (n + 1) / 10 ≡ n / 10 = omega (arith, within) in
    front_tens n l ∙ ap decimal (sym e) ∙ sym (front_tens (n + 1) (omega arith)))
    (either_way (ltb n 10))
