-- No digit is lost: where a text has no fault, each digit outside comments is half of a byte.
use Rattle.std.specs.Prelude.{ℕ, suc, ◌+◌, ◌*◌, ◌%◌, ◌≤◌, Bool, List, [], ◌∷◌, ◌≡◌, refl, ltb, length, Option, Some, None}
use Rattle.std.proofs.Math.Bool.{true, false, not}
use Rattle.std.proofs.Common.{sym, ◌∙◌, arith, zero-add, ltb-true, ltb-false}
use Rattle.std.proofs.Math.Logic.{⊎_elim}
use Rattle.std.proofs.Math.Dec.{eqb}
use Rattle.std.proofs.lemmas.Bool.{eqb-false}
use Rattle.base.specs.Pick.{pick}
use Rattle.base.specs.PickLaws.{pick_true, pick_false, pick_either, either_way, not_both}
use Rattle.text.specs.Hex.{digit}
use Rattle.lesson.specs.Text.{line_feed, number_sign, is_digit, commented, uncommented, worths, digits_of, bytes_of}
use Rattle.lesson.specs.TextLaws.{pair_count}
use Rattle.lesson.specs.Fault.{start, half, faulty, next, after, fault_from, fault_of}
use Rattle.lesson.specs.declared.faults.Reading.{Reading}

-- a place is not nowhere
no_fault : (b : Bool) (at : ℕ) (f : Option ℕ) → pick b (Some at) f ≡ None → (b ≡ false) × (f ≡ None)
unfolding pick
no_fault true at f e = let z : ◌≡◌ {A = ℕ} 0 1 = cc in absurd (omega arith)
no_fault false at f e = (refl, e)

-- the digits of a record come round by twos
next_even : (k n : ℕ) → k ≤ 7 → (next k + n) % 2 ≡ 0 → (k + suc n) % 2 ≡ 0
unfolding next
next_even k n h e =
    ⊎_elim
    (λ (less : ltb k 7 ≡ true).
    let same : next k ≡ k + 1 = pick_true _ _ _ less in omega arith)
    (λ (full : ltb k 7 ≡ false).
    let same : next k ≡ 0 = pick_false _ _ _ full in
    let seven : k ≡ 7 = omega (arith, ltb-false k 7 full) in omega arith)
    (either_way (ltb k 7))

next_below : (k : ℕ) → next k ≤ 7
unfolding next
next_below k =
    ⊎_elim
    (λ (less : ltb k 7 ≡ true). rw (pick_true _ _ _ less) (omega (arith, ltb-true k 7 less)))
    (λ (full : ltb k 7 ≡ false). rw (pick_false _ _ _ full) (omega arith))
    (either_way (ltb k 7))

-- outside a comment and at no line feed, no comment went on before
pub was_outside : (x : Bool) (c : ℕ) → commented x c ≡ false → eqb c line_feed ≡ false → x ≡ false
unfolding commented
was_outside x c out other =
    ⊎_elim
    (λ (sign : eqb c number_sign ≡ true). absurd (not_both (pick_true _ _ _ sign) out))
    (λ (word : eqb c number_sign ≡ false). sym (pick_false _ _ _ word ∙ pick_false _ _ _ other) ∙ out)
    (either_way (eqb c number_sign))

-- the digits of the record so far and all that are to come
abbrev left : Reading → List ℕ → ℕ
left s l = s.digits + length (worths (uncommented s.comment l))

module _ (s : Reading) (c : ℕ) (l : List ℕ) (h : s.digits ≤ 7) (even : left (after s c) l % 2 ≡ 0) where
  in_comment_lem : commented s.comment c ≡ true → left s (c ∷ l) % 2 ≡ 0
  unfolding uncommented after
  in_comment_lem e =
      let stands : after s c ≡ record { digits = s.digits; cut = s.cut; comment = true } = pick_true _ _ _ e in
      let leaves : uncommented s.comment (c ∷ l) ≡ uncommented true l = pick_true _ _ _ e in
      rw leaves (rw stands at even)

  module _ (outside : commented s.comment c ≡ false) where
    leaves : uncommented s.comment (c ∷ l) ≡ c ∷ uncommented false l
    unfolding uncommented
    leaves = pick_false _ _ _ outside

    a_digit : is_digit c ≡ true → left s (c ∷ l) % 2 ≡ 0
    unfolding worths after
    a_digit e =
        let stands : after s c ≡ record { digits = next s.digits; cut = s.cut; comment = false } =
        pick_false _ _ _ outside ∙ pick_true _ _ _ e in
        let more : worths (c ∷ uncommented false l) ≡ digit c ∷ worths (uncommented false l) = pick_true _ _ _ e in
        rw (leaves, more) (next_even s.digits (length (worths (uncommented false l))) h (rw stands at even))

    no_digit : is_digit c ≡ false → left s (c ∷ l) % 2 ≡ 0
    unfolding worths after
    no_digit e =
        let same : worths (c ∷ uncommented false l) ≡ worths (uncommented false l) = pick_false _ _ _ e in
        ⊎_elim
        (λ (feed : eqb c line_feed ≡ true).
        let stands : after s c ≡ record { digits = s.digits; cut = not (eqb s.digits 0); comment = false } =
        pick_false _ _ _ outside ∙ pick_false _ _ _ e ∙ pick_true _ _ _ feed in
        rw (leaves, same) (rw stands at even))
        (λ (other : eqb c line_feed ≡ false).
        let stands : after s c ≡ s = pick_false _ _ _ outside ∙ pick_false _ _ _ e ∙ pick_false _ _ _ other in
        rw (leaves, same) (rw (stands, was_outside s.comment c outside other) at even))
        (either_way (eqb c line_feed))

  pub one_more : left s (c ∷ l) % 2 ≡ 0
  one_more =
      ⊎_elim in_comment_lem
      (λ (outside : commented s.comment c ≡ false).
      ⊎_elim (a_digit outside) (no_digit outside) (either_way (is_digit c)))
      (either_way (commented s.comment c))

pub after_below : (s : Reading) (c : ℕ) → s.digits ≤ 7 → (after s c).digits ≤ 7
unfolding after
after_below s c h =
    pick_either (λ (r : Reading). r.digits ≤ 7) (commented s.comment c) _ _ h
    (pick_either (λ (r : Reading). r.digits ≤ 7) (is_digit c) _ _ (next_below s.digits)
    (pick_either (λ (r : Reading). r.digits ≤ 7) (eqb c line_feed) _ _ h h))

even_from : (s : Reading) (at : ℕ) (l : List ℕ) → s.digits ≤ 7 → fault_from s at l ≡ None → left s l % 2 ≡ 0
unfolding fault_from uncommented worths
even_from s at [] h e = omega (arith, eqb-false (s.digits % 2) 1 (no_fault (half s) at None e).0)
even_from s at (c ∷ l) h e =
    one_more s c l h (even_from (after s c) (suc at) l (after_below s c h) (no_fault (faulty s c) at _ e).1)

-- each byte has its two digits, and each digit its byte
pub digits_all : (text : List ℕ) → fault_of text ≡ None → 2 * length (bytes_of text) ≡ length (digits_of text)
unfolding fault_of digits_of bytes_of
digits_all text e =
    let even : length (worths (uncommented false text)) % 2 ≡ 0 = rw (zero-add) at (even_from start 0 text (omega arith) e) in
    omega (arith, pair_count (worths (uncommented false text)))
