-- The end of some digits, of white space or of a comment: what the walks keep.
use Rattle.std.specs.Prelude.{ℕ, suc, ◌+◌, ◌-◌, ◌≤◌, ◌<◌, Bool, true, false, ◌||◌, List, [], ◌∷◌, ◌≡◌, refl, length, take, drop, ltb, min, not, Some, None}
use Rattle.std.specs.Option.{is_some}
use Rattle.std.specs.List.{position, position_or_len}
use Rattle.std.proofs.lemmas.Bool.Decides.{nat_tests}
use Rattle.std.proofs.Common.{sym, ap, ◌∙◌, arith, add-one, get_or, drop_of_length-le, length-drop, take_all, eq-eqb, ne_eqb, ltb-true, ltb-false}
use Rattle.std.proofs.Math.Seq.{drop-cons}
use Rattle.base.specs.Pick.{pick}
use Rattle.base.specs.PickLaws.{pick_true, pick_false, pick_le, pick_cases}
use Rattle.text.specs.Hex.{digit, digit_of}
use Rattle.text.specs.HexLaws.{digit_found}
use Rattle.lesson.specs.Text.{commented}
use Rattle.lesson.specs.Comments.{in_text, due_behind, reach, reached, goes_on, run, run_end}

-- ---- digits that are due

pub due_same : (comment none : Bool) (c due : ℕ) → is_some (digit_of c) ≡ not none → (comment || none) ≡ true → due ≡ due_behind comment c due
unfolding due_behind pick
due_same true none c due found either = refl
due_same false true c due found either = sym (pick_false (ltb (digit c) 16) (due - 1) due (sym (digit_found c) ∙ found))
due_same false false c due found either = absurd (cc)

pub due_less : (comment none : Bool) (c due : ℕ) → is_some (digit_of c) ≡ not none → (comment || none) ≡ false → due - 1 ≡ due_behind comment c due
unfolding due_behind pick
due_less true none c due found neither = absurd (cc)
due_less false true c due found neither = absurd (cc)
due_less false false c due found neither = sym (pick_true (ltb (digit c) 16) (due - 1) due (sym (digit_found c) ∙ found))

-- ---- runs

-- a run ends at the first character that doesn't go on with it, if there is one
run_length : (comment : Bool) (l : List ℕ) → position_or_len (λ c. not (goes_on comment c)) l ≡ run comment l
unfolding run
run_length comment [] = refl
run_length comment (c ∷ l) =
    let one_more : 1 + position_or_len (λ x. not (goes_on comment x)) l ≡ suc (position_or_len (λ x. not (goes_on comment x)) l) = omega arith in
    pick_cases (λ n. position_or_len (λ x. not (goes_on comment x)) (c ∷ l) ≡ n) (goes_on comment c) _ _
    (λ t. rw t (one_more ∙ ap suc (run_length comment l))) (λ f. rw f)

pub run_most : (comment : Bool) (l : List ℕ) → run comment l ≤ length l
unfolding run
run_most comment [] = omega arith
run_most comment (c ∷ l) = pick_le (goes_on comment c) (suc (run comment l)) 0 (suc (length l)) (omega (arith, run_most comment l)) (omega arith)

pub run_stopped : (comment : Bool) (l : List ℕ) (i : ℕ) → Some i ≡ position (λ c. not (goes_on comment c)) l → (run comment l ≡ i) × (i < length l)
run_stopped comment l i is = let n = run_length comment l in (grind (arith, nat_tests), grind (arith, nat_tests))

pub run_whole : (comment : Bool) (l : List ℕ) → None ≡ position (λ c. not (goes_on comment c)) l → run comment l ≡ length l
run_whole comment l is = let n = run_length comment l in let m = run_most comment l in grind (arith, nat_tests)

-- what is left from a place on
module _ (text : List ℕ) (from : ℕ) (inside : from ≤ length text) where
  left : take (length text - from) (drop from text) ≡ drop from text
  left = let size : length (drop from text) ≡ length text - from = length-drop from text in take_all (length text - from) (drop from text) (omega arith)

  module _ (comment : Bool) where
    pub end_stopped : (i : ℕ) → Some i ≡ position (λ c. not (goes_on comment c)) (take (length text - from) (drop from text))
        → (from + i ≡ run_end comment text from) × (from + i ≤ length text)
    unfolding run_end
    end_stopped i is =
        let both = run_stopped comment (drop from text) i (rw left at is) in
        let size : length (drop from text) ≡ length text - from = length-drop from text in
        (ap (λ n. from + n) (sym both.0), omega (arith, both.1))

    pub end_whole : None ≡ position (λ c. not (goes_on comment c)) (take (length text - from) (drop from text))
        → length text ≡ run_end comment text from
    unfolding run_end
    end_whole is =
        let all = run_whole comment (drop from text) (rw left at is) in
        let size : length (drop from text) ≡ length text - from = length-drop from text in
        omega (arith, all)

  pub reached_from : (digits r : ℕ) → r ≡ reach false digits (take (length text - from) (drop from text))
      → from + r ≡ reached false digits text from
  unfolding reached
  reached_from digits r is = ap (λ n. from + n) (rw left at is)

-- the nearer of a place and the text's end
pub nearer : (text : List ℕ) (at : ℕ) → min at (length text) ≡ in_text text at
unfolding in_text
nearer text at = pick_cases (λ n. min at (length text) ≡ n) (ltb (length text) at) _ _ (λ t. grind (arith, ltb-true (length text) at t)) (λ f. grind (arith, ltb-false (length text) at f))

module _ (comment : Bool) (l : List ℕ) (i due : ℕ) where
  pub reach_on : i < length l → (due ≡ 0 → ⊥)
      → reach comment due (drop i l)
      ≡ suc (reach (commented comment (get_or l i 0)) (due_behind (commented comment (get_or l i 0)) (get_or l i 0) due) (drop (i + 1) l))
  unfolding reach
  reach_on h some = rw (drop-cons l i 0 h, add-one i) (pick_false _ _ _ (ne_eqb due 0 some))

  pub reach_stop : due ≡ 0 → i < length l → reach comment due (drop i l) ≡ 0
  unfolding reach
  reach_stop none h = rw (drop-cons l i 0 h) (pick_true _ _ _ (eq-eqb due 0 none))

  pub reach_over : length l ≤ i → reach comment due (drop i l) ≡ 0
  unfolding reach
  reach_over h = rw (drop_of_length-le l h)
