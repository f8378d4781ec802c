-- Records and lines: where a record ends, what cuts it, and that no character stands between bytes but those that rule 2 and rule 3 name.
use Rattle.std.specs.Prelude.{ℕ, zero, suc, ◌+◌, ◌%◌, ◌^◌, ◌<◌, true, false, List, [], ◌∷◌, ◌++◌, ◌≡◌, refl, length, Some, None}
use Rattle.std.proofs.Common.{append-nil, ap, sym, ◌∙◌, inl, arith, add-zero, ne_eqb}
use Rattle.base.specs.Pick.{pick}
use Rattle.base.specs.PickLaws.{pick_true, pick_false}
use Rattle.text.specs.Hex.{digit}
use Rattle.lesson.specs.Text.{line_feed, number_sign, is_digit, apart, commented}
use Rattle.lesson.specs.TextLaws.{comment_goes}
use Rattle.lesson.specs.Fault.{start, faulty, next, after, behind, fault_from, fault_of}
use Rattle.lesson.specs.FaultLaws.{Whole, whole_parts, whole_digits, opened, digit_after, digit_on, wrong_character, moved, moved_from}
use Rattle.lesson.specs.Lesson.{longest}
use Rattle.lesson.specs.Plain.{Digits, OneLine}
use Rattle.lesson.specs.declared.faults.Reading.{Reading}

-- ---- where a record ends

pub behind_parts : (s : Reading) (a b : List ℕ) → behind s (a ++ b) ≡ behind (behind s a) b
behind_parts s [] b = refl
behind_parts s (c ∷ a) b = behind_parts (after s c) a b

-- so many digits on, and the eighth ends the record
abbrev nexts : ℕ → ℕ → ℕ
nexts k zero = k
nexts k (suc n) = nexts (next k) n

eighth : nexts 0 8 ≡ 0
unfolding next pick
eighth = refl

digits_behind : (k : ℕ) (ds : List ℕ) → Digits ds → behind (opened k) ds ≡ opened (nexts k (length ds))
digits_behind k [] all = refl
digits_behind k (c ∷ ds) all = ap (λ (s : Reading). behind s ds) (digit_after k c all.0) ∙ digits_behind (next k) ds all.1

digits_from : (k at : ℕ) (ds : List ℕ) → Digits ds → fault_from (opened k) at ds ≡ fault_from (opened (nexts k (length ds))) (at + length ds) []
digits_from k at [] all = ap (λ (n : ℕ). fault_from (opened k) n []) (sym (add-zero at))
digits_from k at (c ∷ ds) all =
    let on : suc at + length ds ≡ at + suc (length ds) = omega arith in
    digit_on k at c ds all.0 ∙ digits_from (next k) (suc at) ds all.1
    ∙ ap (λ (n : ℕ). fault_from (opened (nexts (next k) (length ds))) n []) on

start_ends : (at : ℕ) → fault_from start at [] ≡ None
unfolding fault_from pick
start_ends at = refl

-- Eight digits behind whole records are one more, and the next may begin right behind it: it need not wait for a line's end.
pub record_whole : (a ds : List ℕ) → Whole a → Digits ds → length ds ≡ 8 → Whole (a ++ ds)
record_whole a ds w all eight =
    let round : nexts 0 (length ds) ≡ 0 = ap (nexts 0) eight ∙ eighth in
    record {
      good = whole_parts a ds w ∙ digits_from 0 (length a) ds all ∙ ap (λ (k : ℕ). fault_from (opened k) (length a + length ds) []) round ∙ start_ends _;
      over = behind_parts start a ds ∙ ap (λ (s : Reading). behind s ds) w.over ∙ digits_behind 0 ds all ∙ ap opened round;
    }

-- ---- what may stand between bytes

apart_none : (c : ℕ) → (c ≡ 32 → ⊥) → (c ≡ 9 → ⊥) → (c ≡ 13 → ⊥) → (c ≡ 10 → ⊥) → (c ≡ 35 → ⊥) → apart c ≡ false
unfolding apart
apart_none c space tab return feed sign = rw (ne_eqb c 32 space, ne_eqb c 9 tab, ne_eqb c 13 return, ne_eqb c 10 feed, ne_eqb c 35 sign)

-- Space, tab, carriage return, line feed and number sign are all that may stand there, by their codes: any other character that is no digit is a
-- fault where it stands.
pub no_other : (a ds rest : List ℕ) (c : ℕ) → Whole a → Digits ds → length ds < 8 → is_digit c ≡ false
    → (c ≡ 32 → ⊥) → (c ≡ 9 → ⊥) → (c ≡ 13 → ⊥) → (c ≡ 10 → ⊥) → (c ≡ 35 → ⊥)
    → fault_of (a ++ (ds ++ (c ∷ rest))) ≡ Some (length a + length ds)
no_other a ds rest c w all few none space tab return feed sign =
    wrong_character a ds rest c w all few none (inl (apart_none c space tab return feed sign))

-- ---- a comment within a record

-- a comment goes on behind k digits of a record
abbrev remarked : ℕ → Reading
remarked k = record { digits = k; cut = false; comment = true }

sign_within : (k at : ℕ) (l : List ℕ) → k % 2 ≡ 0 → fault_from (opened k) at (number_sign ∷ l) ≡ fault_from (remarked k) (suc at) l
unfolding fault_from faulty after commented digit apart pick
sign_within k at l even = rw (ne_eqb (k % 2) 1 (λ e. absurd (omega arith)))

word_within : (k c : ℕ) → (c ≡ line_feed → ⊥) → after (remarked k) c ≡ remarked k
unfolding after
word_within k c other = pick_true _ _ _ (comment_goes c other)

words_within : (k at : ℕ) (words l : List ℕ) → OneLine words → fault_from (remarked k) at (words ++ l) ≡ fault_from (remarked k) (at + length words) l
unfolding fault_from faulty pick
words_within k at [] l all = rw (add-zero at)
words_within k at (c ∷ words) l all =
    let on : suc at + length words ≡ at + suc (length words) = omega arith in
    rw (word_within k c all.0, words_within k (suc at) words l all.1, on)

-- its line's end cuts the record as a line's end without a comment does
feed_within : (k at : ℕ) (l : List ℕ) → k % 2 ≡ 0 → fault_from (remarked k) at (line_feed ∷ l) ≡ fault_from (opened k) at (line_feed ∷ l)
unfolding fault_from faulty after commented digit apart pick
feed_within k at l even = rw (ne_eqb (k % 2) 1 (λ e. absurd (omega arith)))

module _ (a ds words : List ℕ) (w : Whole a) (all : Digits ds) (few : length ds < 8) (even : length ds % 2 ≡ 0) (one : OneLine words) where
  -- A comment between two bytes of a record moves what the line's end behind it brings, and nothing else: the forgotten byte is found.
  pub comment_within : (rest : List ℕ)
      → fault_of (a ++ (ds ++ (number_sign ∷ (words ++ (line_feed ∷ rest))))) ≡ moved (suc (length words)) (fault_of (a ++ (ds ++ (line_feed ∷ rest))))
  comment_within rest =
      let at : ℕ = length a + length ds in
      let on : suc at + length words ≡ at + suc (length words) = omega arith in
      whole_digits a ds (number_sign ∷ (words ++ (line_feed ∷ rest))) w all few
      ∙ sign_within (length ds) at (words ++ (line_feed ∷ rest)) even
      ∙ words_within (length ds) (suc at) words (line_feed ∷ rest) one
      ∙ feed_within (length ds) (suc at + length words) rest even
      ∙ ap (λ (n : ℕ). fault_from (opened (length ds)) n (line_feed ∷ rest)) on
      ∙ moved_from (suc (length words)) (opened (length ds)) at (line_feed ∷ rest)
      ∙ ap (moved (suc (length words))) (sym (whole_digits a ds (line_feed ∷ rest) w all few))

  remark_ends : (k at : ℕ) → k % 2 ≡ 0 → fault_from (remarked k) at [] ≡ None
  unfolding fault_from
  remark_ends k at even-so = pick_false _ _ _ (ne_eqb (k % 2) 1 (λ e. absurd (omega arith)))

  -- and the text may end in it
  pub comment_last : fault_of (a ++ (ds ++ (number_sign ∷ words))) ≡ None
  comment_last =
      whole_digits a ds (number_sign ∷ words) w all few
      ∙ sign_within (length ds) (length a + length ds) words even
      ∙ ap (fault_from (remarked (length ds)) (suc (length a + length ds))) (sym (append-nil words))
      ∙ words_within (length ds) (suc (length a + length ds)) words [] one
      ∙ remark_ends (length ds) (suc (length a + length ds) + length words) even

-- ---- sizes

-- rule 9's number is the largest of 32 bits
pub longest_is : longest + 1 ≡ 2 ^ 32
longest_is = refl
