-- A word is a clock exactly if it is digits, one or more; and then it is the number that they denote.
use Rattle.std.specs.Prelude.{ℕ, ◌≤◌, ◌<◌, true, false, not, ◌&&◌, List, [], ◌∷◌, ◌⊎◌, ◌≡◌, refl, eqb, leb, length, Some, None}
use Rattle.std.proofs.Common.{inl, inr, ⊎_elim, sym, ◌∙◌, arith}
use Rattle.std.proofs.Math.Path.{ap}
use Rattle.std.proofs.Math.Dec.{ltb}
use borrow.Author.Tests.{leb-true, leb-false, ltb-true, eqb-true}
use Rattle.base.specs.Pick.{pick}
use Rattle.base.specs.PickLaws.{pick_false, pick_either, pick_cases, both_hold, not_both, not_true, never, either_way}
use Rattle.text.specs.Line.{space, decimal}
use Rattle.sheets.specs.Limits.{up_to}
use Rattle.sheets.specs.LimitLaws.{up_to_less}
use Rattle.text.specs.Hex.{digit as worth}
use Rattle.sheets.specs.Numbers.{base, no_numbers, with_digit, with_blank, numbers_after, numbers_behind, unread, clock_in, clock_of}
use Rattle.sheets.specs.FourLaws.{valued, AllDigits, Word, first_read}
use Rattle.sheets.specs.SpelledLaws.{decimal_word, decimal_valued}
use Rattle.sheets.specs.declared.Numbers.{Numbers}

pub clock_read : (word : List ℕ) → Word 10 word → clock_of word ≡ Some (up_to 255 (valued 10 0 word))
unfolding clock_in pick
clock_read word w = ap clock_in (first_read word w) ∙ ap Some (up_to_less 255 (valued 10 0 word) 65535 (omega arith))

pub clock_decimal : (clock : ℕ) → clock_of (decimal clock) ≡ Some (up_to 255 clock)
clock_decimal clock = clock_read (decimal clock) (decimal_word clock) ∙ ap (λ (n : ℕ). Some (up_to 255 n)) (decimal_valued clock)

-- ---- and no other word

module _ (s : Numbers) (c : ℕ) where
  abbrev Onward : Numbers → Type 0
  Onward t = s.place ≤ t.place

  onward : Onward (numbers_after s c)
  unfolding numbers_after with_blank with_digit
  onward =
      pick_cases Onward (leb 4 s.place) _ _ (λ t. omega arith)
      (λ f.
      let few : s.place < 4 = leb-false 4 s.place f in
      pick_either Onward (eqb c space) _ _
      (pick_either Onward (s.begun && ltb s.place 3) _ _ (omega arith) (omega arith))
      (pick_either Onward (ltb (worth c) (base s.place)) _ _ (omega arith) (omega arith)))

  abbrev OfClock : Numbers → Type 0
  OfClock t = t.place ≡ 0 → worth c < 10

  of_clock : s.place ≡ 0 → OfClock (numbers_after s c)
  unfolding numbers_after with_blank with_digit base pick
  of_clock first =
      pick_cases OfClock (leb 4 s.place) _ _ (λ t e. absurd (omega (arith, leb-true 4 s.place t)))
      (λ f.
      pick_either OfClock (eqb c space) _ _
      (pick_either OfClock (s.begun && ltb s.place 3) _ _ (λ e. absurd (omega arith)) (λ e. absurd (omega arith)))
      (pick_cases OfClock (ltb (worth c) (base s.place)) _ _
      (λ t e. omega (arith, ltb-true (worth c) (base s.place) t, ap base first)) (λ g e. absurd (omega arith))))

behind_onward : (s : Numbers) (text : List ℕ) → s.place ≤ (numbers_behind s text).place
behind_onward s [] = omega arith
behind_onward s (c ∷ text) = omega (arith, onward s c, behind_onward (numbers_after s c) text)

all_of_clock : (s : Numbers) (text : List ℕ) → s.place ≡ 0 → (numbers_behind s text).place ≡ 0 → AllDigits 10 text
all_of_clock s [] first last = tt
all_of_clock s (c ∷ text) first last =
    let here : (numbers_after s c).place ≡ 0 = omega (arith, behind_onward (numbers_after s c) text) in
    (of_clock s c first here, all_of_clock (numbers_after s c) text here last)

begun_some : (text : List ℕ) → (numbers_behind no_numbers text).begun ≡ true → 0 < length text
begun_some [] begun = absurd (never begun)
begun_some (c ∷ text) begun = omega arith

no_number : (n : ℕ) → None ≡ Some n → ⊥
no_number n e = let z : ◌≡◌ {A = ℕ} 0 1 = cc in omega arith

pub clock_word : (word : List ℕ) (n : ℕ) → clock_of word ≡ Some n → Word 10 word
unfolding clock_in
clock_word word n is =
    let s : Numbers = numbers_behind no_numbers word in
    ⊎_elim
    (λ (t : (eqb s.place 0 && s.begun) ≡ true).
    let two : _ = both_hold (eqb s.place 0) s.begun t in
    record { some = begun_some word two.1; digits = all_of_clock no_numbers word refl (eqb-true s.place 0 two.0) })
    (λ (f : (eqb s.place 0 && s.begun) ≡ false). absurd (no_number n (sym (pick_false _ _ _ f) ∙ is)))
    (either_way (eqb s.place 0 && s.begun))

-- ---- a line of numbers is unread exactly if it has no character

abbrev Started : Numbers → Type 0
Started s = (s.begun ≡ true) ⊎ (1 ≤ s.place)

started : (s : Numbers) (c : ℕ) → Started (numbers_after s c)
unfolding numbers_after with_blank with_digit
started s c =
    pick_cases Started (leb 4 s.place) _ _ (λ t. inr (omega (arith, leb-true 4 s.place t)))
    (λ f.
    pick_either Started (eqb c space) _ _
    (pick_either Started (s.begun && ltb s.place 3) _ _ (inr (omega arith)) (inr (omega arith)))
    (pick_either Started (ltb (worth c) (base s.place)) _ _ (inl refl) (inr (omega arith))))

started_behind : (s : Numbers) (c : ℕ) (text : List ℕ) → Started (numbers_behind s (c ∷ text))
started_behind s c [] = started s c
started_behind s c (b ∷ text) = started_behind (numbers_after s c) b text

started_read : (s : Numbers) → Started s → unread s ≡ true → ⊥
unfolding unread
started_read s (inl begun) none =
    not_both begun (not_true s.begun (both_hold (eqb s.place 0) (not s.begun) none).1)
started_read s (inr later) none =
    omega (arith, later, eqb-true s.place 0 (both_hold (eqb s.place 0) (not s.begun) none).0)

pub none_unread : unread (numbers_behind no_numbers []) ≡ true
unfolding unread
none_unread = refl

pub unread_none : (text : List ℕ) → unread (numbers_behind no_numbers text) ≡ true → text ≡ []
unread_none [] none = refl
unread_none (c ∷ text) none = absurd (started_read (numbers_behind no_numbers (c ∷ text)) (started_behind no_numbers c text) none)
