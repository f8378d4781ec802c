-- Which cause a fault has and where it is told, by how the text was written; short records are in ShortLaws.
use Rattle.std.specs.Prelude.{ℕ, suc, ◌+◌, ◌-◌, ◌/◌, ◌%◌, ◌≤◌, ◌<◌, Bool, true, false, ◌||◌, List, [], ◌∷◌, ◌++◌, ◌≡◌, refl, ◌⊎◌, eqb, length, take, Some}
use Rattle.std.proofs.Common.{append_assoc, append-nil, sym, ap, ◌∙◌, inl, inr, ⊎_elim, arith, zero-add, add-zero, length-append, lt-ltb, ne_eqb, eq-eqb, eqb-true}
use Rattle.std.proofs.Math.ListN.{get_or-eq_default}
use Rattle.std.proofs.Math.Seq.{take-append_seam, get_or-append_seam}
use Rattle.base.specs.Pick.{pick}
use Rattle.base.specs.PickLaws.{pick_true, pick_false, pick_same}
use Rattle.text.specs.Hex.{digit}
use Rattle.lesson.specs.Text.{line_feed, number_sign, is_digit, white, apart}
use Rattle.lesson.specs.TextLaws.{white_is, feed_no_digit}
use Rattle.lesson.specs.Fault.{start, half, faulty, behind, fault_from, fault_of}
use Rattle.lesson.specs.FaultLaws.{Whole, opened, digit_after, next_is, wrong_character, text_ends}
use Rattle.lesson.proofs.RecordLaws.{behind_parts}
use Rattle.lesson.specs.Cause.{character_at, begun_in, alien, stopped_at, marked, wide, finding}
use Rattle.lesson.specs.Place.{place_from, place_behind}
use Rattle.lesson.proofs.PlaceLaws.{later_line}
use Rattle.lesson.specs.Plain.{Digits, OneLine, feeds}
use Rattle.lesson.specs.Lesson.{longest, fault_by, Reads}
use Rattle.lesson.specs.RoomLaws.{fault_told}
use Rattle.lesson.specs.declared.Cause.{Cause}
use Rattle.lesson.specs.declared.Cause.TheVariants.{NoDigit, OneDigit, ShortRecord, ByteOrderMark, Utf16}
use Rattle.lesson.specs.declared.Lesson.{Lesson}
use Rattle.lesson.specs.declared.Lesson.TheVariants.{Fault}
use Rattle.lesson.specs.declared.causes.Finding.{Finding}
use Rattle.lesson.specs.declared.faults.Reading.{Reading}

-- ---- how a text begins

-- neither with a byte order mark nor as UTF-16 does
pub record Unmarked (text : List ℕ) : Type 0 where
  pub mark : marked text ≡ false
  pub narrow : wide text ≡ false

-- a text that begins with two characters of ASCII, none of them 00, or with one
pub ascii_unmarked : (text : List ℕ) → 0 < character_at text 0 → character_at text 0 < 128 → 0 < character_at text 1 → Unmarked text
unfolding marked wide
ascii_unmarked text some low other =
    let no-ef : eqb (character_at text 0) 0xEF ≡ false = ne_eqb (character_at text 0) 0xEF (λ e. absurd (omega (arith, e))) in
    let no-ff : eqb (character_at text 0) 0xFF ≡ false = ne_eqb (character_at text 0) 0xFF (λ e. absurd (omega (arith, e))) in
    let no-fe : eqb (character_at text 0) 0xFE ≡ false = ne_eqb (character_at text 0) 0xFE (λ e. absurd (omega (arith, e))) in
    let no-00 : eqb (character_at text 0) 0 ≡ false = ne_eqb (character_at text 0) 0 (λ e. absurd (omega (arith, e))) in
    let nor-00 : eqb (character_at text 1) 0 ≡ false = ne_eqb (character_at text 1) 0 (λ e. absurd (omega (arith, e))) in
    record { mark = rw no-ef; narrow = rw (no-ff, no-fe, no-00, nor-00) }

-- ---- from where reading stops to what is told

module _ (text d d' : List ℕ) (r : Lesson) (limit : length text ≤ longest) (reads : Reads text d d' r) (at : ℕ)
    (found : fault_of text ≡ Some at) where
  pub told_by_lem : (f : Finding) → finding text at ≡ f → (r ≡ fault_by f text) × (d' ≡ d)
  told_by_lem f is =
      let told : _ = fault_told text d d' r reads limit at found in (told.0 ∙ ap (λ (g : Finding). fault_by g text) is, told.1)

  -- A text that has a fault and begins with a byte order mark is told as that, at its start.
  pub mark_told : marked text ≡ true → (r ≡ Fault 1 1 ByteOrderMark) × (d' ≡ d)
  unfolding finding place_behind place_from
  mark_told is = told_by_lem (record { at = 0; cause = ByteOrderMark }) (pick_true _ _ _ is)

  -- And one that begins as UTF-16 does, as that.
  pub wide_told : marked text ≡ false → wide text ≡ true → (r ≡ Fault 1 1 Utf16) × (d' ≡ d)
  unfolding finding place_behind place_from
  wide_told no_mark is = told_by_lem (record { at = 0; cause = Utf16 }) (pick_false _ _ _ no_mark ∙ pick_true _ _ _ is)

-- EF, FF, FE and 00 at the start are faults by themselves.
pub mark_faults : (rest : List ℕ)
    → (fault_of (0xEF ∷ rest) ≡ Some 0) × (fault_of (0xFF ∷ rest) ≡ Some 0) × (fault_of (0xFE ∷ rest) ≡ Some 0) × (fault_of (0 ∷ rest) ≡ Some 0)
unfolding fault_of fault_from faulty digit apart pick
mark_faults rest = (refl, refl, refl, refl)

-- ---- by where reading stops

-- behind the characters p, the next is of b
module _ (p b : List ℕ) (unmarked : Unmarked (p ++ b)) where
  by_stop : finding (p ++ b) (length p) ≡ stopped_at (p ++ b) (length p)
  unfolding finding
  by_stop = pick_false _ _ _ unmarked.mark ∙ pick_false _ _ _ unmarked.narrow

  before : take (length p) (p ++ b) ≡ p
  before = take-append_seam p b

  pub found_alien : alien (character_at (p ++ b) (length p)) ≡ true → finding (p ++ b) (length p) ≡ record { at = length p; cause = NoDigit }
  unfolding stopped_at
  found_alien is = by_stop ∙ pick_true _ _ _ is

  module _ (known : alien (character_at (p ++ b) (length p)) ≡ false) where
    pub found_alone : half (behind start p) ≡ true → finding (p ++ b) (length p) ≡ record { at = length p - 1; cause = OneDigit }
    unfolding stopped_at
    found_alone odd = by_stop ∙ pick_false _ _ _ known ∙ pick_true _ _ _ (rw before odd)

    pub found_short : half (behind start p) ≡ false
        → finding (p ++ b) (length p) ≡ record { at = begun_in p; cause = ShortRecord ((behind start p).digits / 2) }
    unfolding stopped_at
    found_short even = by_stop ∙ pick_false _ _ _ known ∙ pick_false _ _ _ (rw before even) ∙ rw before

-- a fault told behind the characters a
pub told_behind : (a b : List ℕ) (cause : Cause)
    → fault_by (record { at = length a; cause = cause }) (a ++ b) ≡ Fault (place_behind a).line (place_behind a).column cause
told_behind a b cause = rw (take-append_seam a b)

-- ---- no digit

alien_is : (c : ℕ) → is_digit c ≡ false → apart c ≡ false → alien c ≡ true
unfolding alien
alien_is c none other = rw (none, other) (pick_false _ _ _ refl)

-- A character that is neither a digit nor may stand between bytes is told where it stands, at any digit of a record behind whole ones.
pub no_digit : (a ds rest d d' : List ℕ) (c : ℕ) (r : Lesson) → Whole a → Digits ds → length ds < 8
    → is_digit c ≡ false → apart c ≡ false
    → Unmarked ((a ++ ds) ++ (c ∷ rest)) → length ((a ++ ds) ++ (c ∷ rest)) ≤ longest → Reads ((a ++ ds) ++ (c ∷ rest)) d d' r
    → (r ≡ Fault (place_behind (a ++ ds)).line (place_behind (a ++ ds)).column NoDigit) × (d' ≡ d)
no_digit a ds rest d d' c r w all few none other unmarked limit reads =
    let size : length (a ++ ds) ≡ length a + length ds = length-append a ds in
    let found : fault_of ((a ++ ds) ++ (c ∷ rest)) ≡ Some (length (a ++ ds)) =
    rw (size, append_assoc a ds (c ∷ rest)) (wrong_character a ds rest c w all few none (inl other)) in
    let here : character_at ((a ++ ds) ++ (c ∷ rest)) (length (a ++ ds)) ≡ c = get_or-append_seam (a ++ ds) c rest 32 in
    let told : _ = told_by_lem _ d d' r limit reads _ found _ (found_alien (a ++ ds) (c ∷ rest) unmarked (rw here (alien_is c none other))) in
    (told.0 ∙ told_behind (a ++ ds) (c ∷ rest) NoDigit, told.1)

digits_line : (ds : List ℕ) → Digits ds → OneLine ds
digits_line [] all = tt
digits_line (c ∷ ds) all = (λ e. absurd (omega (arith, ap digit e, feed_no_digit, all.0)), digits_line ds all.1)

-- In a record that begins a line, it is told by how many lines end before it, and by how many digits stand before it on its own.
pub told_there : (a ds rest d d' : List ℕ) (c : ℕ) (r : Lesson) → Whole (a ++ (line_feed ∷ []))
    → Digits ds → length ds < 8 → is_digit c ≡ false → apart c ≡ false
    → Unmarked ((a ++ (line_feed ∷ ds)) ++ (c ∷ rest)) → length ((a ++ (line_feed ∷ ds)) ++ (c ∷ rest)) ≤ longest
    → Reads ((a ++ (line_feed ∷ ds)) ++ (c ∷ rest)) d d' r
    → (r ≡ Fault (2 + feeds a) (1 + length ds) NoDigit) × (d' ≡ d)
told_there a ds rest d d' c r w all few none other unmarked limit reads =
    let so : (a ++ (line_feed ∷ [])) ++ ds ≡ a ++ (line_feed ∷ ds) = append_assoc a (line_feed ∷ []) ds in
    let told : _ = no_digit (a ++ (line_feed ∷ [])) ds rest d d' c r w all few none other (rw so unmarked) (rw so limit) (rw so reads) in
    (told.0 ∙ rw (so, later_line a ds (digits_line ds all)), told.1)

-- ---- one digit alone

one_or_other : (x y : Bool) → (x || y) ≡ true → (x ≡ true) ⊎ (y ≡ true)
one_or_other true y e = inl refl
one_or_other false y e = inr e

space_apart : apart 32 ≡ true
unfolding apart
space_apart = refl

-- what may stand between bytes is no digit
apart_no_digit : (c : ℕ) → apart c ≡ true → is_digit c ≡ false
unfolding apart digit pick
apart_no_digit c is =
    ⊎_elim (white_is (λ (x : ℕ). is_digit x ≡ false) refl refl refl refl c)
    (λ (sign : eqb c number_sign ≡ true). rw (eqb-true c number_sign sign))
    (one_or_other (white c) (eqb c number_sign) is)

known_apart : (c : ℕ) → apart c ≡ true → alien c ≡ false
unfolding alien
known_apart c is = rw is (pick_same (is_digit c) false)

pub known_digit : (c : ℕ) → digit c < 16 → alien c ≡ false
unfolding alien
known_digit c is = pick_true _ _ _ (lt-ltb (digit c) 16 is)

-- digits of a record behind others
digits_open : (k : ℕ) (ds : List ℕ) → Digits ds → k + length ds < 8 → behind (opened k) ds ≡ opened (k + length ds)
digits_open k [] all h = rw (add-zero k)
digits_open k (c ∷ ds) all h =
    let on : k + 1 + length ds ≡ k + suc (length ds) = omega arith in
    ap (λ (s : Reading). behind s ds) (digit_after k c all.0 ∙ ap opened (next_is k (omega arith)))
    ∙ digits_open (k + 1) ds all.1 (omega arith)
    ∙ ap opened on

whole_open : (a ds : List ℕ) → Whole a → Digits ds → length ds < 8 → behind start (a ++ ds) ≡ opened (length ds)
whole_open a ds w all few =
    behind_parts start a ds ∙ ap (λ (s : Reading). behind s ds) w.over ∙ digits_open 0 ds all (omega arith) ∙ ap opened (zero-add (length ds))

digits_more : (ds : List ℕ) (e : ℕ) → Digits ds → digit e < 16 → Digits (ds ++ (e ∷ []))
digits_more [] e all is = (is, tt)
digits_more (c ∷ ds) e all is = (all.0, digits_more ds e all.1 is)

module _ (a ds d d' : List ℕ) (e : ℕ) (r : Lesson)
    (w : Whole a) (all : Digits ds) (few : length ds < 7) (even : length ds % 2 ≡ 0) (is : digit e < 16) where
  abbrev alone : List ℕ
  alone = a ++ (ds ++ (e ∷ []))

  alone_size : length alone ≡ suc (length (a ++ ds))
  alone_size = omega (arith, length-append a (ds ++ (e ∷ [])), length-append ds (e ∷ []), length-append a ds)

  one_more : length (ds ++ (e ∷ [])) ≡ suc (length ds)
  one_more = omega (arith, length-append ds (e ∷ []))

  odd : length (ds ++ (e ∷ [])) % 2 ≡ 1
  odd = omega (arith, one_more)

  odd_behind : half (behind start alone) ≡ true
  odd_behind = rw (whole_open a (ds ++ (e ∷ [])) w (digits_more ds e all is) (omega (arith, one_more))) (eq-eqb _ _ odd)

  -- it is told where it stands, one before the place at which reading stops
  alone_told : (b : List ℕ) → Unmarked (alone ++ b) → length (alone ++ b) ≤ longest → Reads (alone ++ b) d d' r
      → fault_of (alone ++ b) ≡ Some (length alone) → alien (character_at (alone ++ b) (length alone)) ≡ false
      → (r ≡ Fault (place_behind (a ++ ds)).line (place_behind (a ++ ds)).column OneDigit) × (d' ≡ d)
  alone_told b unmarked limit reads found known =
      let place : length alone - 1 ≡ length (a ++ ds) = omega (arith, alone_size) in
      let told : _ = told_by_lem _ d d' r limit reads _ found _ (found_alone alone b unmarked known odd_behind) in
      let parts : alone ++ b ≡ (a ++ ds) ++ ((e ∷ []) ++ b) =
      rw (append_assoc a (ds ++ (e ∷ [])) b, append_assoc ds (e ∷ []) b, append_assoc a ds ((e ∷ []) ++ b)) in
      (told.0 ∙ rw (place, parts) (told_behind (a ++ ds) ((e ∷ []) ++ b) OneDigit), told.1)

  -- One digit of a byte, then white space or a comment: the digit is told, where it stands.
  pub one_digit : (c : ℕ) (rest : List ℕ) → apart c ≡ true → Unmarked (alone ++ (c ∷ rest)) → length (alone ++ (c ∷ rest)) ≤ longest
      → Reads (alone ++ (c ∷ rest)) d d' r
      → (r ≡ Fault (place_behind (a ++ ds)).line (place_behind (a ++ ds)).column OneDigit) × (d' ≡ d)
  one_digit c rest between unmarked limit reads =
      let size : length alone ≡ length a + length (ds ++ (e ∷ [])) = length-append a (ds ++ (e ∷ [])) in
      let found : fault_of (alone ++ (c ∷ rest)) ≡ Some (length alone) =
      rw (size, append_assoc a (ds ++ (e ∷ [])) (c ∷ rest))
      (wrong_character a (ds ++ (e ∷ [])) rest c w (digits_more ds e all is) (omega (arith, one_more)) (apart_no_digit c between) (inr odd)) in
      let here : character_at (alone ++ (c ∷ rest)) (length alone) ≡ c = get_or-append_seam alone c rest 32 in
      alone_told (c ∷ rest) unmarked limit reads found (rw here (known_apart c between))

  -- And where the text ends behind it.
  pub one_digit_last : Unmarked alone → length alone ≤ longest → Reads alone d d' r
      → (r ≡ Fault (place_behind (a ++ ds)).line (place_behind (a ++ ds)).column OneDigit) × (d' ≡ d)
  one_digit_last unmarked limit reads =
      let same : alone ++ [] ≡ alone = append-nil alone in
      let size : length alone ≡ length a + length (ds ++ (e ∷ [])) = length-append a (ds ++ (e ∷ [])) in
      let found : fault_of alone ≡ Some (length alone) =
      text_ends a (ds ++ (e ∷ [])) w (digits_more ds e all is) (omega (arith, one_more))
      ∙ pick_true _ _ _ (eq-eqb _ _ odd) ∙ ap Some (sym size) in
      let here : character_at (alone ++ []) (length alone) ≡ 32 = get_or-eq_default (alone ++ []) 32 (rw same (omega arith)) in
      alone_told [] (rw same unmarked) (rw same limit) (rw same reads) (rw same found) (rw here (known_apart 32 space_apart))
