-- White space between two bytes changes nothing: no byte, and no fault but its place.
use Rattle.std.specs.Prelude.{ℕ, suc, ◌+◌, ◌%◌, true, false, List, [], ◌∷◌, ◌++◌, ◌≡◌, refl, ◌⊎◌, eqb, length, None}
use Rattle.std.proofs.Common.{ap, sym, ◌∙◌, inl, inr, ⊎_elim, arith, add-zero, ne_eqb}
use Rattle.base.specs.Pick.{pick}
use Rattle.base.specs.PickLaws.{pick_false}
use Rattle.text.specs.Hex.{digit}
use Rattle.lesson.specs.Text.{line_feed, white, apart, commented, uncommented, worths, digits_of, bytes_of}
use Rattle.lesson.specs.TextLaws.{white_is, commented_after, uncommented_parts, worths_parts}
use Rattle.lesson.specs.Fault.{start, faulty, after, behind, fault_from, fault_of}
use Rattle.lesson.specs.FaultLaws.{parts_from, opened, moved, moved_from}
use Rattle.lesson.specs.Plain.{Blank, OneLine}
use Rattle.lesson.specs.declared.faults.Reading.{Reading}

-- ---- bytes

blank_worths : (c : ℕ) → white c ≡ true → (b : List ℕ) → worths (uncommented false (c ∷ b)) ≡ worths (uncommented false b)
unfolding uncommented worths commented digit pick
blank_worths = white_is (λ (c : ℕ). (b : List ℕ) → worths (uncommented false (c ∷ b)) ≡ worths (uncommented false b)) (λ b. refl) (λ b. refl) (λ b. refl) (λ b. refl)

blanks_worths : (blanks b : List ℕ) → Blank blanks → worths (uncommented false (blanks ++ b)) ≡ worths (uncommented false b)
blanks_worths [] b all = refl
blanks_worths (c ∷ blanks) b all = blank_worths c all.0 (blanks ++ b) ∙ blanks_worths blanks b all.1

-- white space that stands outside any comment has no byte
pub blank_bytes : (a blanks b : List ℕ) → commented_after false a ≡ false → Blank blanks → bytes_of (a ++ (blanks ++ b)) ≡ bytes_of (a ++ b)
unfolding bytes_of digits_of
blank_bytes a blanks b outside all =
    rw (uncommented_parts a (blanks ++ b) false, uncommented_parts a b false, outside, worths_parts (uncommented false a), worths_parts (uncommented false a), blanks_worths blanks b all)

-- ---- faults

-- behind an even number of digits of a record, white space is no fault; and reading stands there still, where no line ends within a record
abbrev pub Still : ℕ → ℕ → Type 0
Still k c = (faulty (opened k) c ≡ false) × ((k ≡ 0) ⊎ (c ≡ line_feed → ⊥) → after (opened k) c ≡ opened k)

pub blank_still : (k : ℕ) → k % 2 ≡ 0 → (c : ℕ) → white c ≡ true → Still k c
unfolding faulty after commented digit apart pick
blank_still k even =
    let second : eqb (k % 2) 1 ≡ false = ne_eqb (k % 2) 1 (λ e. absurd (omega arith)) in
    white_is (Still k) (second, λ either. refl) (second, λ either. refl) (second, λ either. refl)
    (second, λ either. ⊎_elim (λ (none : k ≡ 0). rw none) (λ (other : line_feed ≡ line_feed → ⊥). absurd (other refl)) either)

pub blanks_from : (k at : ℕ) (blanks l : List ℕ) → k % 2 ≡ 0 → Blank blanks → (k ≡ 0) ⊎ OneLine blanks
    → fault_from (opened k) at (blanks ++ l) ≡ fault_from (opened k) (at + length blanks) l
unfolding fault_from
blanks_from k at [] l even all either = rw (add-zero at)
blanks_from k at (c ∷ blanks) l even all either =
    let still : _ = blank_still k even c all.0 in
    let e : suc at + length blanks ≡ at + suc (length blanks) = omega arith in
    let here : after (opened k) c ≡ opened k = still.1 (⊎_elim (λ none. inl none) (λ one. inr one.0) either) in
    pick_false _ _ _ still.0
    ∙ rw (here, blanks_from k (suc at) blanks l even all.1 (⊎_elim (λ none. inl none) (λ one. inr one.1) either), e)

-- Where a text has no fault and ends behind k digits of a record, white space that follows moves the faults behind it, and makes none: any
-- between two records, and within a record any but a line feed.
pub blank_moves : (a blanks b : List ℕ) (k : ℕ) → fault_of a ≡ None → behind start a ≡ opened k → k % 2 ≡ 0
    → Blank blanks → (k ≡ 0) ⊎ OneLine blanks
    → fault_of (a ++ (blanks ++ b)) ≡ moved (length blanks) (fault_of (a ++ b))
unfolding fault_of
blank_moves a blanks b k good over even all either =
    let there : (l : List ℕ) → fault_from start 0 (a ++ l) ≡ fault_from (opened k) (0 + length a) l =
    λ l. parts_from start 0 a l good ∙ ap (λ (s : Reading). fault_from s (0 + length a) l) over in
    there (blanks ++ b)
    ∙ blanks_from k (0 + length a) blanks b even all either
    ∙ moved_from (length blanks) (opened k) (0 + length a) b
    ∙ ap (moved (length blanks)) (sym (there b))
