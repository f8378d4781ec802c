-- Lines that are not four numbers: each has too many blanks or too few, a blank where none belongs, or a character that is no digit.
use Rattle.std.specs.Prelude.{ℕ, ◌+◌, ◌≤◌, ◌<◌, Bool, true, false, ◌&&◌, List, [], ◌∷◌, ◌++◌, ◌⊎◌, ◌≡◌, refl, eqb, leb}
use Prim.Native.Char.{code}
use Rattle.std.proofs.Common.{inl, inr, ⊎_elim, ap, ◌∙◌, arith}
use Rattle.std.proofs.Math.Dec.{ltb}
use borrow.Author.Tests.{leb-true, leb-false, le-leb, le-ltb, ne_eqb, eqb-true}
use Rattle.base.specs.Pick.{pick}
use Rattle.base.specs.PickLaws.{pick_true, pick_false, pick_either, pick_cases, pick_le, either_way, both_hold}
use Rattle.text.specs.Line.{space}
use Rattle.text.specs.Hex.{digit as worth}
use Rattle.sheets.specs.Numbers.{base, no_numbers, spoilt, with_digit, with_blank, numbers_after, numbers_behind, four}
use Rattle.sheets.specs.declared.Numbers.{Numbers}

pub behind_append : (s : Numbers) (a b : List ℕ) → numbers_behind s (a ++ b) ≡ numbers_behind (numbers_behind s a) b
behind_append s [] b = refl
behind_append s (c ∷ a) b = behind_append (numbers_after s c) a b

pub base_small : (place : ℕ) → base place ≤ 16
unfolding base
base_small place = pick_le (eqb place 2) 16 10 16 (omega arith) (omega arith)

-- ---- what is spoilt stays so

abbrev Spoilt : Numbers → Type 0
Spoilt s = 4 ≤ s.place

spoilt_stays : (s : Numbers) (text : List ℕ) → Spoilt s → numbers_behind s text ≡ s
unfolding numbers_after
spoilt_stays s [] h = refl
spoilt_stays s (c ∷ text) h = rw (pick_true _ _ _ (le-leb 4 s.place h)) (spoilt_stays s text h)

spoilt_none : (s : Numbers) (text : List ℕ) → Spoilt s → four (numbers_behind s text) ≡ false
unfolding four
spoilt_none s text h = rw (spoilt_stays s text h, ne_eqb s.place 3 (λ e. omega arith))

-- ---- a character that is neither a digit nor a blank

stray_spoils : (s : Numbers) (c : ℕ) → (c ≡ space → ⊥) → worth c ≡ 16 → Spoilt (numbers_after s c)
unfolding numbers_after
stray_spoils s c other none =
    pick_cases Spoilt (leb 4 s.place) _ _ (leb-true 4 s.place)
    (λ f.
    rw (pick_false _ _ _ (ne_eqb c space other), pick_false _ _ _ (le-ltb (worth c) (base s.place) (omega (arith, base_small s.place))))
    (omega arith))

pub stray_none : (before after : List ℕ) (c : ℕ) → (c ≡ space → ⊥) → worth c ≡ 16 → four (numbers_behind no_numbers (before ++ (c ∷ after))) ≡ false
stray_none before after c other none =
    ap four (behind_append no_numbers before (c ∷ after))
    ∙ spoilt_none (numbers_after (numbers_behind no_numbers before) c) after (stray_spoils (numbers_behind no_numbers before) c other none)

-- among them are the signs, the point, the comma, the carriage return and the tab
pub plus_stray : worth (code "+") ≡ 16
unfolding worth pick
plus_stray = refl

pub minus_stray : worth (code "-") ≡ 16
unfolding worth pick
minus_stray = refl

pub point_stray : worth (code ".") ≡ 16
unfolding worth pick
point_stray = refl

pub comma_stray : worth (code ",") ≡ 16
unfolding worth pick
comma_stray = refl

pub return_stray : worth (code "\r") ≡ 16
unfolding worth pick
return_stray = refl

pub tab_stray : worth (code "\t") ≡ 16
unfolding worth pick
tab_stray = refl

-- ---- a blank at either end, and two together

abbrev Between : Numbers → Type 0
Between s = Spoilt s ⊎ (s.begun ≡ false)

blank_between : (s : Numbers) → Between (numbers_after s space)
unfolding numbers_after with_blank pick
blank_between s =
    pick_cases Between (leb 4 s.place) _ _ (λ t. inl (leb-true 4 s.place t))
    (λ f. pick_either Between (s.begun && ltb s.place 3) _ _ (inr refl) (inr refl))

not_begun : (a b : Bool) → b ≡ false → (a && b) ≡ false
not_begun true b e = e
not_begun false b e = refl

between_none : (s : Numbers) → Between s → four s ≡ false
unfolding four
between_none s (inl h) = spoilt_none s [] h
between_none s (inr e) = not_begun (eqb s.place 3) s.begun e

blank_spoils : (s : Numbers) → s.begun ≡ false → Spoilt (numbers_after s space)
unfolding numbers_after with_blank pick
blank_spoils s none =
    pick_cases Spoilt (leb 4 s.place) _ _ (leb-true 4 s.place)
    (λ f. rw (pick_false (s.begun && ltb s.place 3) _ _ (ap (λ (b : Bool). b && ltb s.place 3) none)) (omega arith))

pub blank_first : (after : List ℕ) → four (numbers_behind no_numbers (space ∷ after)) ≡ false
blank_first after = spoilt_none (numbers_after no_numbers space) after (blank_spoils no_numbers refl)

pub blank_last : (before : List ℕ) → four (numbers_behind no_numbers (before ++ (space ∷ []))) ≡ false
blank_last before =
    ap four (behind_append no_numbers before (space ∷ []))
    ∙ between_none (numbers_after (numbers_behind no_numbers before) space) (blank_between (numbers_behind no_numbers before))

two_blanks : (s : Numbers) (after : List ℕ) → Between s → four (numbers_behind s (space ∷ after)) ≡ false
two_blanks s after (inl h) = spoilt_none s (space ∷ after) h
two_blanks s after (inr e) = spoilt_none (numbers_after s space) after (blank_spoils s e)

pub blank_twice : (before after : List ℕ) → four (numbers_behind no_numbers (before ++ (space ∷ space ∷ after))) ≡ false
blank_twice before after =
    ap four (behind_append no_numbers before (space ∷ space ∷ after))
    ∙ two_blanks (numbers_after (numbers_behind no_numbers before) space) after (blank_between (numbers_behind no_numbers before))

-- ---- three blanks and no more

abbrev pub blanks : List ℕ → ℕ
blanks [] = 0
blanks (c ∷ text) = pick (eqb c space) 1 0 + blanks text

module _ (s : Numbers) (c : ℕ) where
  abbrev Counted : Numbers → Type 0
  Counted t = t.place < 4 → t.place ≡ s.place + pick (eqb c space) 1 0

  counted_blank : eqb c space ≡ true → Counted (with_blank s)
  unfolding with_blank
  counted_blank is =
      pick_either Counted (s.begun && ltb s.place 3) _ _ (λ h. rw (pick_true {A = ℕ} (eqb c space) 1 0 is)) (λ h. absurd (omega arith))

  counted_other : eqb c space ≡ false → Counted (pick (ltb (worth c) (base s.place)) (with_digit s (worth c)) (spoilt s))
  unfolding with_digit
  counted_other not =
      pick_either Counted (ltb (worth c) (base s.place)) _ _
      (λ h. rw (pick_false {A = ℕ} (eqb c space) 1 0 not) (omega arith)) (λ h. absurd (omega arith))

  counted : Counted (numbers_after s c)
  unfolding numbers_after
  counted =
      pick_cases Counted (leb 4 s.place) _ _ (λ t h. absurd (omega (arith, leb-true 4 s.place t)))
      (λ f. pick_cases Counted (eqb c space) _ _ counted_blank counted_other)

places_counted : (s : Numbers) (text : List ℕ) → (numbers_behind s text).place < 4 → (numbers_behind s text).place ≡ s.place + blanks text
places_counted s [] h = omega arith
places_counted s (c ∷ text) h =
    ⊎_elim
    (λ (t : leb 4 (numbers_after s c).place ≡ true).
    let stays : _ = ap (λ (n : Numbers). n.place) (spoilt_stays (numbers_after s c) text (leb-true 4 _ t)) in
    absurd (omega (arith, stays, leb-true 4 (numbers_after s c).place t)))
    (λ (f : leb 4 (numbers_after s c).place ≡ false).
    let one : _ = counted s c (leb-false 4 _ f) in
    let rest : _ = places_counted (numbers_after s c) text h in
    omega (arith, one, rest))
    (either_way (leb 4 (numbers_after s c).place))

-- so a line of three words is not four numbers, nor one of five
pub three_blanks : (text : List ℕ) → four (numbers_behind no_numbers text) ≡ true → blanks text ≡ 3
unfolding four
three_blanks text is =
    let last : (numbers_behind no_numbers text).place ≡ 3 =
    eqb-true _ 3 (both_hold (eqb (numbers_behind no_numbers text).place 3) (numbers_behind no_numbers text).begun is).0 in
    omega (arith, last, places_counted no_numbers text (omega (arith, last)))
