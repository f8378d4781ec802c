-- The place behind a record's digits is the right one, and the comment that was written there is found.
use Prim.Native.Nat.{ℕ, zero, suc, ◌+◌, ◌-◌, ◌*◌, ◌≤◌, ◌<◌}
use Prim.Native.String.{String}
use Rattle.std.specs.Prelude.{Bool, true, ◌≡◌, refl, get_or, take, drop}
use Rattle.std.proofs.Math.Bool.{false}
use mathlib.Core.List.{List, [], ◌∷◌, ◌++◌, append_assoc}
use Rattle.std.proofs.Common.{sym, ◌∙◌, ⊎_elim, arith, zero-add, suc-add, take-add, drop_at, length-take-le, get_or-drop, lt-ltb, le-ltb, ne_eqb}
use Rattle.std.proofs.Math.Path.{ap}
use Rattle.std.proofs.Math.ListN.{length, length-append}
use Rattle.std.proofs.Math.Seq.{take-nil, drop-append_seam, drop-append-add, take-append_seam, slice, slice_empty}
use Rattle.base.specs.Pick.{pick}
use Rattle.base.specs.PickLaws.{pick_true, pick_false, either_way}
use Rattle.text.specs.Hex.{digit}
use Rattle.text.specs.Quoted.{quoted}
use Rattle.lesson.specs.Text.{line_feed, carriage_return, number_sign, space, is_digit, white, commented, uncommented, worths, digits_of}
use Rattle.lesson.specs.TextLaws.{white_is, digit_uncommented}
use Rattle.lesson.specs.Cause.{character_at}
use Rattle.lesson.specs.Comments.{in_text, due_behind, reach, reached, place_after, closes, goes_on, run, run_end, comment_from, comment_at, comment_of}
use Rattle.lesson.specs.Plain.{Digits, Blank, OneLine}

-- ---- one character further

abbrev digits_in : Bool → List ℕ → List ℕ
digits_in comment text = worths (uncommented comment text)

-- by what the next character is, where a digit is due: in a comment, a digit, or neither
by_character : (P : Bool → ℕ → Type 0) (y : Bool) (c m : ℕ)
    → (y ≡ true → P true (suc m)) → (y ≡ false → is_digit c ≡ true → P false m) → (y ≡ false → is_digit c ≡ false → P false (suc m))
    → P y (due_behind y c (suc m))
unfolding due_behind pick
by_character P true c m first second third = first refl
by_character P false c m first second third =
    let one : suc m - 1 ≡ m = omega arith in
    ⊎_elim (λ (is : is_digit c ≡ true). rw (is, one) (second refl is)) (λ (none : is_digit c ≡ false). rw none (third refl none)) (either_way (is_digit c))

step : (x : Bool) (m c : ℕ) (rest : List ℕ)
    → reach x (suc m) (c ∷ rest) ≡ suc (reach (commented x c) (due_behind (commented x c) c (suc m)) rest)
unfolding reach
step x m c rest = pick_false _ _ _ (ne_eqb (suc m) 0 (λ e. absurd (omega arith)))

-- ---- the place right behind so many digits

-- up to that place the text has so many digits, the first ones
of_reach : (x : Bool) (n : ℕ) (text : List ℕ) → digits_in x (take (reach x n text) text) ≡ take n (digits_in x text)
unfolding reach uncommented worths pick
of_reach x n [] = sym (take-nil n)
of_reach x zero (c ∷ rest) = refl
of_reach x (suc m) (c ∷ rest) =
    rw (step x m c rest)
    (by_character So (commented x c) c m
    (λ in-comment. of_reach true (suc m) rest)
    (λ outside is. rw is (ap (λ (l : List ℕ). digit c ∷ l) (of_reach false m rest)))
    (λ outside none. rw none (of_reach false (suc m) rest)))
  where
    So : Bool → ℕ → Type 0
    So y due =
        worths (pick y (uncommented true (take (reach y due rest) rest)) (c ∷ uncommented false (take (reach y due rest) rest)))
        ≡ take (suc m) (worths (pick y (uncommented true rest) (c ∷ uncommented false rest)))

pub reach_digits : (n : ℕ) (text : List ℕ) → digits_of (take (reach false n text) text) ≡ take n (digits_of text)
unfolding digits_of
reach_digits = of_reach false

-- and before it the text has fewer
fewer : (x : Bool) (n k : ℕ) (text : List ℕ) → k < reach x n text → length (digits_in x (take k text)) < n
unfolding reach uncommented worths pick
fewer x n k [] below = absurd (omega arith)
fewer x zero k (c ∷ rest) below = absurd (omega arith)
fewer x (suc m) zero (c ∷ rest) below = omega arith
fewer x (suc m) (suc k) (c ∷ rest) below =
    by_character So (commented x c) c m
    (λ in-comment less. fewer true (suc m) k rest less)
    (λ outside is less. rw is (let on : length (digits_in false (take k rest)) < m = fewer false m k rest less in omega arith))
    (λ outside none less. rw none (fewer false (suc m) k rest less))
    (omega (arith, below, step x m c rest))
  where
    So : Bool → ℕ → Type 0
    So y due =
        k < reach y due rest
        → length (worths (pick y (uncommented true (take k rest)) (c ∷ uncommented false (take k rest)))) < suc m

pub reach_first : (n k : ℕ) (text : List ℕ) → k < reach false n text → length (digits_of (take k text)) < n
unfolding digits_of
reach_first = fewer false

-- it is in the text
pub reach_within : (x : Bool) (n : ℕ) (text : List ℕ) → reach x n text ≤ length text
unfolding reach pick
reach_within x n [] = omega arith
reach_within x zero (c ∷ rest) = omega arith
reach_within x (suc m) (c ∷ rest) =
    let on : _ = reach_within (commented x c) (due_behind (commented x c) c (suc m)) rest in omega (arith, on, step x m c rest)

-- ---- from record to record

due_more : (y : Bool) (c m n : ℕ) → due_behind y c (suc (m + n)) ≡ due_behind y c (suc m) + n
unfolding due_behind pick
due_more true c m n = omega arith
due_more false c m n =
    ⊎_elim (λ (is : is_digit c ≡ true). rw is (omega arith)) (λ (none : is_digit c ≡ false). rw none (omega arith)) (either_way (is_digit c))

-- some digits and then some more are all of them
reach_more : (x : Bool) (m n : ℕ) (text : List ℕ) → (m ≡ 0 → x ≡ false)
    → reach x (m + n) text ≡ reach x m text + reach false n (drop (reach x m text) text)
unfolding reach pick
reach_more x m n [] outside = refl
reach_more x zero n (c ∷ rest) outside =
    let none : 0 + n ≡ n = omega arith in rw (none, outside refl) (sym (zero-add (reach false n (c ∷ rest))))
reach_more x (suc m) n (c ∷ rest) outside =
    let more : suc m + n ≡ suc (m + n) = omega arith in
    let on : _ =
    reach_more (commented x c) (due_behind (commented x c) c (suc m)) n rest
    (by_character (λ (y : Bool) (due : ℕ). due ≡ 0 → y ≡ false) (commented x c) c m
    (λ in-comment none. absurd (omega arith)) (λ outside is none. refl) (λ outside none_is none. refl)) in
    rw (more, step x (m + n) c rest, step x m c rest, due_more (commented x c) c m n, on) (sym (suc-add _ _))

in_text_lem : (text : List ℕ) (at : ℕ) → at ≤ length text → in_text text at ≡ at
unfolding in_text
in_text_lem text at h = pick_false _ _ _ (le-ltb (length text) at h)

-- Walking eight digits at a time from the text's start, the place behind record k is that behind its 8 (k + 1) digits.
pub walked : (k : ℕ) (text : List ℕ) → place_after text (reach false (8 * k) text) 8 ≡ reach false (8 * suc k) text
unfolding place_after reached
walked k text =
    let more : 8 * suc k ≡ 8 * k + 8 = omega arith in
    rw (in_text_lem text (reach false (8 * k) text) (reach_within false (8 * k) text), more) (sym (reach_more false (8 * k) 8 text (λ none. refl)))

-- digits that stand together are passed one by one
pub digits_passed : (ds rest : List ℕ) → Digits ds → reach false (length ds) (ds ++ rest) ≡ length ds
unfolding reach due_behind pick
digits_passed [] rest all = none rest
  where
    none : (l : List ℕ) → reach false 0 l ≡ 0
    none [] = refl
    none (c ∷ l) = refl
digits_passed (c ∷ ds) rest all =
    let one : suc (length ds) - 1 ≡ length ds = omega arith in
    rw (step false (length ds) c (ds ++ rest), digit_uncommented c all.0, lt-ltb (digit c) 16 all.0, one) (ap suc (digits_passed ds rest all.1))

-- ---- what was written is found

gap_goes : (c : ℕ) → white c ≡ true → (c ≡ line_feed → ⊥) → goes_on false c ≡ true
unfolding goes_on pick
gap_goes = white_is (λ (c : ℕ). (c ≡ line_feed → ⊥) → goes_on false c ≡ true) (λ other. refl) (λ other. refl) (λ other. refl) (λ other. absurd (other refl))

word_goes : (c : ℕ) → (c ≡ line_feed → ⊥) → (c ≡ carriage_return → ⊥) → goes_on true c ≡ true
unfolding goes_on pick
word_goes c feed return = rw (ne_eqb c carriage_return return, ne_eqb c line_feed feed)

-- no carriage return within
abbrev pub Unreturned : List ℕ → Type 0
Unreturned [] = Unit {0}
Unreturned (c ∷ rest) = (c ≡ carriage_return → ⊥) × Unreturned rest

-- what goes on with white space, or with a comment, ends there
abbrev pub Ends : Bool → List ℕ → Type 0
Ends comment [] = Unit {0}
Ends comment (c ∷ rest) = goes_on comment c ≡ false

ends_there : (comment : Bool) (tail : List ℕ) → Ends comment tail → run comment tail ≡ 0
unfolding run
ends_there comment [] there = refl
ends_there comment (c ∷ rest) there = pick_false _ _ _ there

gaps_run : (gaps tail : List ℕ) → Blank gaps → OneLine gaps → Ends false tail → run false (gaps ++ tail) ≡ length gaps
unfolding run
gaps_run [] tail all one there = ends_there false tail there
gaps_run (c ∷ gaps) tail all one there =
    pick_true _ _ _ (gap_goes c all.0 one.0) ∙ ap suc (gaps_run gaps tail all.1 one.1 there)

words_run : (words tail : List ℕ) → OneLine words → Unreturned words → Ends true tail → run true (words ++ tail) ≡ length words
unfolding run
words_run [] tail one none there = ends_there true tail there
words_run (c ∷ words) tail one none there =
    pick_true _ _ _ (word_goes c one.0 none.0) ∙ ap suc (words_run words tail one.1 none.1 there)

module _ (a gaps tail : List ℕ) (all : Blank gaps) (one : OneLine gaps) (there : Ends false tail) where
  abbrev text : List ℕ
  text = a ++ (gaps ++ tail)

  abbrev sign : ℕ
  sign = length a + length gaps

  behind_gaps : drop sign text ≡ tail
  behind_gaps = drop-append-add a (gaps ++ tail) (length gaps) ∙ drop-append_seam gaps tail

  from_there : comment_from text (length a) ≡ sign
  unfolding comment_from run_end
  from_there =
      let inside : length a ≤ length text = omega (arith, length-append a (gaps ++ tail)) in
      rw (in_text_lem text (length a) inside, drop-append_seam a (gaps ++ tail), gaps_run gaps tail all one there)

  character_there : character_at text sign ≡ get_or tail 0 space
  character_there = let none : sign + 0 ≡ sign = omega arith in rw (← none) (sym (get_or-drop sign text 0 space) ∙ rw behind_gaps)

  -- Where something else than a comment follows on the line, or nothing, there is none.
  pub no_comment : (get_or tail 0 space ≡ number_sign → ⊥) → comment_of text (length a) ≡ []
  unfolding comment_of comment_at
  no_comment other =
      rw (from_there, character_there, pick_false _ _ _ (ne_eqb (get_or tail 0 space) number_sign other)) (slice_empty sign text)

part : (at n : ℕ) (l : List ℕ) → at ≤ length l → slice at (at + n) l ≡ take n (drop at l)
part at n l inside = ap (drop at) (take-add at n l) ∙ drop_at (take at l) (take n (drop at l)) at (length-take-le at l inside)

-- a comment ends before a carriage return or a line feed, or where the text ends
abbrev pub Closed : List ℕ → Type 0
Closed [] = Unit {0}
Closed (c ∷ rest) = closes c ≡ true

closed_ends : (rest : List ℕ) → Closed rest → Ends true rest
unfolding goes_on pick
closed_ends [] closed = tt
closed_ends (c ∷ rest) closed = rw closed

sign_ends : goes_on false number_sign ≡ false
unfolding goes_on pick
sign_ends = refl

sign_goes : goes_on true number_sign ≡ true
unfolding goes_on pick
sign_goes = refl

module _ (gaps words rest : List ℕ) (all : Blank gaps) (one : OneLine gaps) (line : OneLine words) (none : Unreturned words) (closed : Closed rest) where
  comment_run : run true (number_sign ∷ (words ++ rest)) ≡ suc (length words)
  unfolding run
  comment_run = pick_true _ _ _ sign_goes ∙ ap suc (words_run words rest line none (closed_ends rest closed))

  -- A comment is given back as it was written, behind any white space that ends no line.
  pub comment_back : (a : List ℕ) → comment_of (a ++ (gaps ++ (number_sign ∷ (words ++ rest)))) (length a) ≡ number_sign ∷ words
  unfolding comment_of comment_at run_end pick
  comment_back a =
      let tail : List ℕ = number_sign ∷ (words ++ rest) in
      let at : ℕ = length a + length gaps in
      let inside : at ≤ length (a ++ (gaps ++ tail)) = omega (arith, length-append a (gaps ++ tail), length-append gaps tail) in
      rw (from_there a gaps tail all one sign_ends, character_there a gaps tail all one sign_ends, behind_gaps a gaps tail all one sign_ends, comment_run)
      (part at (suc (length words)) (a ++ (gaps ++ tail)) inside
      ∙ rw (behind_gaps a gaps tail all one sign_ends) (ap (λ (l : List ℕ). number_sign ∷ l) (take-append_seam words rest)))

  -- So it is behind the eight digits of a record, wherever that stands.
  pub record_comment : (a ds : List ℕ) → Digits ds → length ds ≡ 8
      → comment_of (a ++ (ds ++ (gaps ++ (number_sign ∷ (words ++ rest)))))
      (place_after (a ++ (ds ++ (gaps ++ (number_sign ∷ (words ++ rest))))) (length a) 8)
      ≡ number_sign ∷ words
  unfolding place_after reached
  record_comment a ds digits eight =
      let tail : List ℕ = gaps ++ (number_sign ∷ (words ++ rest)) in
      let inside : length a ≤ length (a ++ (ds ++ tail)) = omega (arith, length-append a (ds ++ tail)) in
      let passed : reach false 8 (ds ++ tail) ≡ length ds = rw (← eight) (digits_passed ds tail digits) in
      rw (in_text_lem (a ++ (ds ++ tail)) (length a) inside, drop-append_seam a (ds ++ tail), passed, ← length-append a ds, ← append_assoc a ds tail) (comment_back (a ++ ds))

-- ---- by examples

-- the comment of a text's record k, walking from its start
abbrev comment_on : ℕ → List ℕ → List ℕ
comment_on zero text = comment_of text (place_after text 0 8)
comment_on (suc k) text = comment_on k (drop (place_after text 0 8) text)

-- characters, and the end of their line: a line feed, or a carriage return before it
abbrev line : String → List ℕ
line s = quoted s ++ (10 ∷ [])

abbrev line_returned : String → List ℕ
line_returned s = quoted s ++ (13 ∷ 10 ∷ [])

pub written_comments :
    (comment_on 0 (line "02 02 00 47  # G arrives; # 08000000") ≡ quoted "# G arrives; # 08000000")
    -- of two records on a line the last one has it; and the third, in capitals and small letters, its own
    × (comment_on 0 (line "08000000 08000000# both" ++ line "080000fF#") ≡ [])
    × (comment_on 1 (line "08000000 08000000# both" ++ line "080000fF#") ≡ quoted "# both")
    × (comment_on 2 (line "08000000 08000000# both" ++ line "080000fF#") ≡ quoted "#")
    -- a carriage return is not told, and a comment that goes on where the text ends is
    × (comment_on 0 (line_returned "08000000 # one" ++ quoted "08000000 # two") ≡ quoted "# one")
    × (comment_on 1 (line_returned "08000000 # one" ++ quoted "08000000 # two") ≡ quoted "# two")
    -- a comment on a line of its own belongs to no record, whether it stands before one or behind one
    × (comment_on 0 (line "# 47" ++ line "08000000" ++ line "# 48") ≡ [])
    -- a tab and a lone carriage return are white space that ends no line
    × (comment_on 0 (quoted "08000000" ++ (9 ∷ 13 ∷ 32 ∷ quoted "# x")) ≡ quoted "# x")
    -- a record that is cut off has none
    × (comment_on 0 (line "080000 # cut off") ≡ [])
    × (comment_on 0 [] ≡ [])
unfolding place_after reached in_text reach due_behind comment_of comment_at comment_from run_end run goes_on commented digit pick
written_comments = (refl, refl, refl, refl, refl, refl, refl, refl, refl, refl)
