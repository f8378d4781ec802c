-- Where a text has its first fault, by how it was written.
use Rattle.std.specs.Prelude.{ℕ, suc, ◌+◌, ◌%◌, ◌≤◌, ◌<◌, Bool, true, false, List, [], ◌∷◌, ◌++◌, ◌≡◌, refl, ◌⊎◌, eqb, length, Option, Some, None}
use Rattle.std.proofs.Common.{append_assoc, append-nil, sym, ap, ◌∙◌, ⊎_elim, arith, add-zero, zero-add, length-append, lt-ltb, eq-eqb, ne_eqb}
use Rattle.base.specs.Pick.{pick}
use Rattle.base.specs.PickLaws.{pick_true, pick_false, pick_same, pick_either, pick_through, either_way}
use Rattle.text.specs.Hex.{digit}
use Rattle.lesson.specs.Text.{line_feed, number_sign, is_digit, white, apart, commented}
use Rattle.lesson.specs.TextLaws.{digit_uncommented, comment_goes, white_is}
use Rattle.lesson.specs.Fault.{start, half, faulty, next, after, behind, fault_from, fault_of}
use Rattle.lesson.specs.Plain.{Digits, Blank, OneLine, comment}
use Rattle.lesson.specs.declared.faults.Reading.{Reading}

-- ---- any text

-- a fault, if there is one, stands at a place up to n
abbrev pub Within : Option ℕ → ℕ → Type 0
Within (Some at) n = at ≤ n
Within None n = Unit {0}

within_from : (s : Reading) (at : ℕ) (l : List ℕ) → Within (fault_from s at l) (at + length l)
unfolding fault_from
within_from s at [] = pick_either (λ (f : Option ℕ). Within f (at + 0)) (half s) _ _ (omega arith) tt
within_from s at (c ∷ l) =
    let on : suc at + length l ≡ at + suc (length l) = omega arith in
    pick_either (λ (f : Option ℕ). Within f (at + suc (length l))) (faulty s c) _ _ (omega arith) (rw on at (within_from (after s c) (suc at) l))

-- a fault stands in the text, or right behind it
pub fault_within : (text : List ℕ) → Within (fault_of text) (length text)
unfolding fault_of
fault_within text = rw (zero-add (length text)) at (within_from start 0 text)

-- what follows characters without a fault is read from where they leave off
pub parts_from : (s : Reading) (at : ℕ) (a b : List ℕ) → fault_from s at a ≡ None
    → fault_from s at (a ++ b) ≡ fault_from (behind s a) (at + length a) b
unfolding fault_from
parts_from s at [] b e = rw (add-zero at)
parts_from s at (c ∷ a) b e =
    ⊎_elim
    (λ (bad : faulty s c ≡ true).
    let here : Some at ≡ None = sym (pick_true _ _ _ bad) ∙ e in
    let z : ◌≡◌ {A = ℕ} 0 1 = cc in absurd (omega arith))
    (λ (fine : faulty s c ≡ false).
    let on : suc at + length a ≡ at + suc (length a) = omega arith in
    pick_false _ _ _ fine ∙ rw (← on) (parts_from (after s c) (suc at) a b (sym (pick_false _ _ _ fine) ∙ e)))
    (either_way (faulty s c))

-- a text without a fault, behind which a record may begin
pub record Whole (text : List ℕ) : Type 0 where
  pub good : fault_of text ≡ None
  pub over : behind start text ≡ start

pub whole_parts : (a b : List ℕ) → Whole a → fault_of (a ++ b) ≡ fault_from start (length a) b
unfolding fault_of
whole_parts a b w = parts_from start 0 a b w.good ∙ rw (w.over, zero-add)

-- what stands behind the first fault does not matter
first_from : (s : Reading) (at k : ℕ) (a b : List ℕ) → fault_from s at a ≡ Some k → k < at + length a → fault_from s at (a ++ b) ≡ Some k
unfolding fault_from
first_from s at k [] b e h =
    ⊎_elim
    (λ (odd : half s ≡ true).
    let here : Some at ≡ Some k = sym (pick_true _ _ _ odd) ∙ e in
    let same : at ≡ k = cc in absurd (omega arith))
    (λ (even : half s ≡ false).
    let here : None ≡ Some k = sym (pick_false _ _ _ even) ∙ e in
    let z : ◌≡◌ {A = ℕ} 0 1 = cc in absurd (omega arith))
    (either_way (half s))
first_from s at k (c ∷ a) b e h =
    ⊎_elim
    (λ (bad : faulty s c ≡ true). pick_true _ _ _ bad ∙ sym (pick_true _ _ _ bad) ∙ e)
    (λ (fine : faulty s c ≡ false).
    pick_false _ _ _ fine ∙ first_from (after s c) (suc at) k a b (sym (pick_false _ _ _ fine) ∙ e) (omega arith))
    (either_way (faulty s c))

pub fault_first : (a b : List ℕ) (k : ℕ) → fault_of a ≡ Some k → k < length a → fault_of (a ++ b) ≡ Some k
unfolding fault_of
fault_first a b k e h = first_from start 0 k a b e (omega arith)

-- ---- digits

-- k digits of a record are read
abbrev pub opened : ℕ → Reading
opened k = record { digits = k; cut = false; comment = false }

digit_fine : (k c : ℕ) → digit c < 16 → faulty (opened k) c ≡ false
unfolding faulty
digit_fine k c h = pick_false _ _ _ refl ∙ pick_true _ _ _ (lt-ltb (digit c) 16 h)

pub digit_after : (k c : ℕ) → digit c < 16 → after (opened k) c ≡ opened (next k)
unfolding after
digit_after k c h = pick_false _ _ _ (digit_uncommented c h) ∙ pick_true _ _ _ (lt-ltb (digit c) 16 h)

pub next_is : (k : ℕ) → k < 7 → next k ≡ k + 1
unfolding next
next_is k h = pick_true _ _ _ (lt-ltb k 7 h)

pub digit_on : (k at c : ℕ) (l : List ℕ) → digit c < 16 → fault_from (opened k) at (c ∷ l) ≡ fault_from (opened (next k)) (suc at) l
unfolding fault_from
digit_on k at c l h = pick_false _ _ _ (digit_fine k c h) ∙ rw (digit_after k c h)

digits_on : (k at : ℕ) (ds l : List ℕ) → Digits ds → k + length ds < 8
    → fault_from (opened k) at (ds ++ l) ≡ fault_from (opened (k + length ds)) (at + length ds) l
digits_on k at [] l all h = rw (add-zero, add-zero)
digits_on k at (c ∷ ds) l all h =
    let one : next k ≡ k + 1 = next_is k (omega arith) in
    let e1 : k + 1 + length ds ≡ k + suc (length ds) = omega arith in
    let e2 : suc at + length ds ≡ at + suc (length ds) = omega arith in
    digit_on k at c (ds ++ l) all.0 ∙ rw (one, digits_on (k + 1) (suc at) ds l all.1 (omega arith), e1, e2)

pub whole_digits : (a ds l : List ℕ) → Whole a → Digits ds → length ds < 8
    → fault_of (a ++ (ds ++ l)) ≡ fault_from (opened (length ds)) (length a + length ds) l
whole_digits a ds l w all h = whole_parts a (ds ++ l) w ∙ digits_on 0 (length a) ds l all (omega arith) ∙ rw zero-add

-- ---- the places of faults

not_there : (k c : ℕ) → is_digit c ≡ false → (apart c ≡ false) ⊎ (k % 2 ≡ 1) → faulty (opened k) c ≡ true
unfolding faulty
not_there k c none other =
    pick_false _ _ _ refl
    ∙ pick_false _ _ _ none
    ∙ ⊎_elim
    (λ (e : apart c ≡ false). pick_false _ _ _ e)
    (λ (odd : k % 2 ≡ 1). ap (λ (x : Bool). pick (apart c) x true) (eq-eqb (k % 2) 1 odd) ∙ pick_same (apart c) true)
    other

-- a line has ended behind k digits of a record
abbrev pub cut_behind : ℕ → Reading
cut_behind k = record { digits = k; cut = true; comment = false }

pub feed_cuts : (k at : ℕ) (l : List ℕ) → 0 < k → k % 2 ≡ 0 → fault_from (opened k) at (line_feed ∷ l) ≡ fault_from (cut_behind k) (suc at) l
unfolding fault_from faulty after commented digit apart pick
feed_cuts k at l some even =
    let second : eqb (k % 2) 1 ≡ false = ne_eqb (k % 2) 1 (λ e. absurd (omega arith)) in
    let begun : eqb k 0 ≡ false = ne_eqb k 0 (λ e. absurd (omega arith)) in
    rw (second, begun)

pub blank_fine : (k : ℕ) → 0 < k → k % 2 ≡ 0 → (c : ℕ) → white c ≡ true
    → (faulty (cut_behind k) c ≡ false) × (after (cut_behind k) c ≡ cut_behind k)
unfolding faulty after commented digit apart pick
blank_fine k some even =
    let second : eqb (k % 2) 1 ≡ false = ne_eqb (k % 2) 1 (λ e. absurd (omega arith)) in
    let begun : eqb k 0 ≡ false = ne_eqb k 0 (λ e. absurd (omega arith)) in
    white_is (λ (c : ℕ). (faulty (cut_behind k) c ≡ false) × (after (cut_behind k) c ≡ cut_behind k))
    (second, refl) (second, refl) (second, refl) (second, rw begun)

pub blanks_on : (k at : ℕ) (blanks l : List ℕ) → Blank blanks → 0 < k → k % 2 ≡ 0
    → fault_from (cut_behind k) at (blanks ++ l) ≡ fault_from (cut_behind k) (at + length blanks) l
unfolding fault_from
blanks_on k at [] l all some even = rw (add-zero at)
blanks_on k at (c ∷ blanks) l all some even =
    let fine : _ = blank_fine k some even c all.0 in
    let e : suc at + length blanks ≡ at + suc (length blanks) = omega arith in
    pick_false _ _ _ fine.0 ∙ rw (fine.1, blanks_on k (suc at) blanks l all.1 some even, e)

pub cut_digit : (k at d : ℕ) (l : List ℕ) → digit d < 16 → fault_from (cut_behind k) at (d ∷ l) ≡ Some at
unfolding fault_from faulty
cut_digit k at d l is = pick_true _ _ _ (pick_false _ _ _ refl ∙ pick_true _ _ _ (lt-ltb (digit d) 16 is))

-- A character that may not stand there is found where it stands, behind as many digits of a record as one likes: one that is neither digit
-- nor white space nor number sign, or any that is no digit where a second digit is due.
pub wrong_character : (a ds rest : List ℕ) (c : ℕ) → Whole a → Digits ds → length ds < 8
    → is_digit c ≡ false → (apart c ≡ false) ⊎ (length ds % 2 ≡ 1)
    → fault_of (a ++ (ds ++ (c ∷ rest))) ≡ Some (length a + length ds)
unfolding fault_from
wrong_character a ds rest c w all h none other =
    whole_digits a ds (c ∷ rest) w all h ∙ pick_true _ _ _ (not_there (length ds) c none other)

-- The text may end within a record, and not within a byte.
pub text_ends : (a ds : List ℕ) → Whole a → Digits ds → length ds < 8
    → fault_of (a ++ ds) ≡ pick (eqb (length ds % 2) 1) (Some (length a + length ds)) None
unfolding fault_from
text_ends a ds w all h = ap (λ (l : List ℕ). fault_of (a ++ l)) (sym (append-nil ds)) ∙ whole_digits a ds [] w all h

-- A forgotten byte is found at the first digit of a later line.
pub forgotten_byte : (a ds blanks rest : List ℕ) (d : ℕ) → Whole a → Digits ds → 0 < length ds → length ds < 8 → length ds % 2 ≡ 0
    → Blank blanks → digit d < 16
    → fault_of (a ++ (ds ++ (line_feed ∷ (blanks ++ (d ∷ rest))))) ≡ Some (length a + length ds + 1 + length blanks)
forgotten_byte a ds blanks rest d w all some h even blank is =
    let same : suc (length a + length ds) + length blanks ≡ length a + length ds + 1 + length blanks = omega arith in
    whole_digits a ds (line_feed ∷ (blanks ++ (d ∷ rest))) w all h
    ∙ feed_cuts (length ds) (length a + length ds) (blanks ++ (d ∷ rest)) some even
    ∙ blanks_on (length ds) (suc (length a + length ds)) blanks (d ∷ rest) blank some even
    ∙ cut_digit (length ds) (suc (length a + length ds) + length blanks) d rest is
    ∙ ap Some same

-- ---- comments

-- a fault so many characters further on
abbrev pub moved : ℕ → Option ℕ → Option ℕ
moved n (Some at) = Some (at + n)
moved n None = None

pub moved_from : (n : ℕ) (s : Reading) (at : ℕ) (l : List ℕ) → fault_from s (at + n) l ≡ moved n (fault_from s at l)
unfolding fault_from
moved_from n s at [] = sym (pick_through (moved n) (half s) (Some at) None)
moved_from n s at (c ∷ l) =
    let e : suc (at + n) ≡ suc at + n = omega arith in
    ap (λ (f : Option ℕ). pick (faulty s c) (Some (at + n)) f) (rw e (moved_from n (after s c) (suc at) l))
    ∙ sym (pick_through (moved n) (faulty s c) (Some at) (fault_from (after s c) (suc at) l))

-- within a comment, between records
abbrev in_comment : Reading
in_comment = record { digits = 0; cut = false; comment = true }

comment_after : (c : ℕ) → (c ≡ line_feed → ⊥) → after in_comment c ≡ in_comment
unfolding after
comment_after c other = pick_true _ _ _ (comment_goes c other)

words_on : (at : ℕ) (words l : List ℕ) → OneLine words → fault_from in_comment at (words ++ l) ≡ fault_from in_comment (at + length words) l
unfolding fault_from faulty pick
words_on at [] l all = rw (add-zero at)
words_on at (c ∷ words) l all =
    let e : suc at + length words ≡ at + suc (length words) = omega arith in
    rw (comment_after c all.0, words_on (suc at) words l all.1, e)

sign_on : (at : ℕ) (l : List ℕ) → fault_from start at (number_sign ∷ l) ≡ fault_from in_comment (suc at) l
unfolding fault_from faulty after commented digit apart pick
sign_on at l = refl

feed_on : (at : ℕ) (l : List ℕ) → fault_from in_comment at (line_feed ∷ l) ≡ fault_from start (suc at) l
unfolding fault_from faulty after commented digit apart pick
feed_on at l = refl

comment_on_lem : (at : ℕ) (words l : List ℕ) → OneLine words
    → fault_from start at (comment words ++ l) ≡ fault_from start (at + length (comment words)) l
comment_on_lem at words l all =
    let same : suc (suc at + length words) ≡ at + suc (length (words ++ (line_feed ∷ []))) = omega (arith, length-append words (line_feed ∷ [])) in
    sign_on at ((words ++ (line_feed ∷ [])) ++ l)
    ∙ rw (append_assoc words (line_feed ∷ []) l) (words_on (suc at) words (line_feed ∷ l) all)
    ∙ feed_on (suc at + length words) l
    ∙ ap (λ (n : ℕ). fault_from start n l) same

-- a comment behind whole records moves the faults behind it, and makes none
pub comment_moves : (a words b : List ℕ) → Whole a → OneLine words
    → fault_of (a ++ (comment words ++ b)) ≡ moved (length (comment words)) (fault_of (a ++ b))
comment_moves a words b w all =
    whole_parts a (comment words ++ b) w
    ∙ comment_on_lem (length a) words b all
    ∙ moved_from (length (comment words)) start (length a) b
    ∙ ap (moved (length (comment words))) (sym (whole_parts a b w))
