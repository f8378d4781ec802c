-- A record of fewer than four bytes: how many it has, and where it is told.
use Rattle.std.specs.Prelude.{ℕ, suc, ◌+◌, ◌*◌, ◌/◌, ◌%◌, ◌≤◌, ◌<◌, Bool, true, false, not, ◌&&◌, List, [], ◌∷◌, ◌++◌, ◌≡◌, refl, eqb, Some}
use Rattle.std.proofs.Common.{append_assoc, ◌∙◌, inr, arith, add-zero, length-append, lt-ltb, ne_eqb}
use Rattle.std.proofs.Math.Path.{ap}
use Rattle.std.proofs.Math.Nat.{zero-add}
use Rattle.std.proofs.Math.ListN.{length}
use Rattle.std.proofs.Math.Seq.{get_or-append_seam}
use Rattle.base.specs.Pick.{pick}
use Rattle.base.specs.PickLaws.{pick_true, pick_false}
use Rattle.text.specs.Hex.{digit}
use Rattle.lesson.specs.Text.{line_feed, is_digit, commented}
use Rattle.lesson.specs.Fault.{start, half, next, after, behind, fault_from, fault_of}
use Rattle.lesson.specs.FaultLaws.{Whole, whole_parts, opened, digit_after, digit_on, next_is, cut_behind, blank_fine, feed_cuts, blanks_on, cut_digit}
use Rattle.lesson.specs.BlankLaws.{blank_still, blanks_from}
use Rattle.lesson.proofs.RecordLaws.{behind_parts}
use Rattle.lesson.specs.Cause.{character_at, begins, begun_from, begun_in}
use Rattle.lesson.specs.Place.{place_behind}
use Rattle.lesson.specs.Plain.{Blank, OneLine, Written, written, Spaced}
use Rattle.lesson.specs.Lesson.{longest, Reads}
use Rattle.lesson.specs.declared.Cause.TheVariants.{ShortRecord}
use Rattle.lesson.specs.declared.Lesson.{Lesson}
use Rattle.lesson.specs.declared.Lesson.TheVariants.{Fault}
use Rattle.lesson.specs.declared.faults.Reading.{Reading}
use Rattle.lesson.proofs.CauseLaws.{Unmarked, told_by_lem, found_short, told_behind, known_digit}

begun_parts : (s : Reading) (begun at : ℕ) (x y : List ℕ)
    → begun_from s begun at (x ++ y) ≡ begun_from (behind s x) (begun_from s begun at x) (at + length x) y
unfolding begun_from
begun_parts s begun at [] y = rw (add-zero at)
begun_parts s begun at (c ∷ x) y =
    let on : suc at + length x ≡ at + suc (length x) = omega arith in rw (← on) (begun_parts (after s c) _ (suc at) x y)

-- no record begins within one
abbrev Within : Reading → List ℕ → Type 0
Within s [] = Unit {0}
Within s (c ∷ l) = (s.digits ≡ 0 → ⊥) × Within (after s c) l

begun_stays : (s : Reading) (begun at : ℕ) (l : List ℕ) → Within s l → begun_from s begun at l ≡ begun
unfolding begun_from begins
begun_stays s begun at [] within = refl
begun_stays s begun at (c ∷ l) within =
    let none : eqb s.digits 0 ≡ false = ne_eqb s.digits 0 within.0 in
    begun_stays (after s c) _ (suc at) l within.1 ∙ pick_false _ _ _ (no_begin s.comment (is_digit c) none)
  where
    no_begin : (x y : Bool) {z : Bool} → z ≡ false → (not x && z && y) ≡ false
    no_begin true y e = refl
    no_begin false y e = rw e

within_parts : (s : Reading) (x y : List ℕ) → Within s x → Within (behind s x) y → Within s (x ++ y)
within_parts s [] y first second = second
within_parts s (c ∷ x) y first second = (first.0, within_parts (after s c) x y first.1 second)

feed_cut : (k : ℕ) → 0 < k → after (opened k) line_feed ≡ cut_behind k
unfolding after commented digit pick
feed_cut k some = rw (ne_eqb k 0 (λ e. absurd (omega arith)))

blanks_cut : (k : ℕ) (blanks : List ℕ) → 0 < k → k % 2 ≡ 0 → Blank blanks
    → (behind (cut_behind k) blanks ≡ cut_behind k) × Within (cut_behind k) blanks
blanks_cut k [] some even all = (refl, tt)
blanks_cut k (c ∷ blanks) some even all =
    let stays : after (cut_behind k) c ≡ cut_behind k = (blank_fine k some even c all.0).1 in
    let on : _ = blanks_cut k blanks some even all.1 in
    (ap (λ (s : Reading). behind s blanks) stays ∙ on.0, ((λ e. absurd (omega arith)), rw stays on.1))

-- ---- bytes with white space between them

-- white space without a line feed leaves reading where it stands
blanks_stay : (k : ℕ) (blanks : List ℕ) → k % 2 ≡ 0 → Blank blanks → OneLine blanks
    → (behind (opened k) blanks ≡ opened k) × (0 < k → Within (opened k) blanks)
blanks_stay k [] even all one = (refl, λ some. tt)
blanks_stay k (c ∷ blanks) even all one =
    let stays : after (opened k) c ≡ opened k = (blank_still k even c all.0).1 (inr one.0) in
    let on : _ = blanks_stay k blanks even all.1 one.1 in
    (ap (λ (s : Reading). behind s blanks) stays ∙ on.0, λ some. ((λ e. absurd (omega arith)), rw stays (on.1 some)))

-- one byte behind k digits of its record
module _ (k : ℕ) (b : Written) (bs : List Written) (even : k % 2 ≡ 0) (few : k < 6) (spaced : Spaced (b ∷ bs)) where
  first : after (opened k) b.high ≡ opened (k + 1)
  first = digit_after k b.high spaced.0 ∙ ap opened (next_is k (omega arith))

  next_two : next (k + 1) ≡ k + 2
  next_two = let one : next (k + 1) ≡ k + 1 + 1 = next_is (k + 1) (omega arith) in omega arith

  second : after (opened (k + 1)) b.low ≡ opened (k + 2)
  second = digit_after (k + 1) b.low spaced.1 ∙ ap opened next_two

  stay : (behind (opened (k + 2)) b.blanks ≡ opened (k + 2)) × (0 < k + 2 → Within (opened (k + 2)) b.blanks)
  stay = blanks_stay (k + 2) b.blanks (omega arith) spaced.2 spaced.3

  byte_behind : (l : List ℕ) → behind (opened k) (b.high ∷ b.low ∷ (b.blanks ++ l)) ≡ behind (opened (k + 2)) l
  byte_behind l =
      ap (λ (s : Reading). behind s (b.low ∷ (b.blanks ++ l))) first
      ∙ ap (λ (s : Reading). behind s (b.blanks ++ l)) second
      ∙ behind_parts (opened (k + 2)) b.blanks l
      ∙ ap (λ (s : Reading). behind s l) stay.0

  byte_from : (at : ℕ) (l : List ℕ)
      → fault_from (opened k) at (b.high ∷ b.low ∷ (b.blanks ++ l)) ≡ fault_from (opened (k + 2)) (suc (suc at) + length b.blanks) l
  byte_from at l =
      digit_on k at b.high (b.low ∷ (b.blanks ++ l)) spaced.0
      ∙ ap (λ (n : ℕ). fault_from (opened n) (suc at) (b.low ∷ (b.blanks ++ l))) (next_is k (omega arith))
      ∙ digit_on (k + 1) (suc at) b.low (b.blanks ++ l) spaced.1
      ∙ ap (λ (n : ℕ). fault_from (opened n) (suc (suc at)) (b.blanks ++ l)) next_two
      ∙ blanks_from (k + 2) (suc (suc at)) b.blanks l (omega arith) spaced.2 (inr spaced.3)

  -- behind its first digit
  byte_within : (l : List ℕ) → Within (opened (k + 2)) l → Within (opened (k + 1)) (b.low ∷ (b.blanks ++ l))
  byte_within l on =
      ((λ e. absurd (omega arith)), rw second (within_parts (opened (k + 2)) b.blanks l (stay.1 (omega arith)) (rw stay.0 on)))

bytes_behind : (k : ℕ) (bs : List Written) → k % 2 ≡ 0 → Spaced bs → k + 2 * length bs < 8
    → behind (opened k) (written bs) ≡ opened (k + 2 * length bs)
bytes_behind k [] even spaced few = rw (add-zero k)
bytes_behind k (b ∷ bs) even spaced few =
    let on : k + 2 + 2 * length bs ≡ k + 2 * suc (length bs) = omega arith in
    byte_behind k b bs even (omega arith) spaced (written bs) ∙ bytes_behind (k + 2) bs (omega arith) spaced.4 (omega arith) ∙ ap opened on

bytes_from : (k at : ℕ) (bs : List Written) (l : List ℕ) → k % 2 ≡ 0 → Spaced bs → k + 2 * length bs < 8
    → fault_from (opened k) at (written bs ++ l) ≡ fault_from (opened (k + 2 * length bs)) (at + length (written bs)) l
bytes_from k at [] l even spaced few = rw (add-zero k, add-zero at)
bytes_from k at (b ∷ bs) l even spaced few =
    let on : k + 2 + 2 * length bs ≡ k + 2 * suc (length bs) = omega arith in
    let size : suc (suc at) + length b.blanks + length (written bs) ≡ at + length (written (b ∷ bs)) =
    omega (arith, length-append b.blanks (written bs)) in
    rw (append_assoc b.blanks (written bs) l)
    (byte_from k b bs even (omega arith) spaced at (written bs ++ l)
    ∙ bytes_from (k + 2) (suc (suc at) + length b.blanks) bs l (omega arith) spaced.4 (omega arith)
    ∙ rw (on, size))

bytes_within : (k : ℕ) (bs : List Written) → 0 < k → k % 2 ≡ 0 → Spaced bs → k + 2 * length bs < 8 → Within (opened k) (written bs)
bytes_within k [] some even spaced few = tt
bytes_within k (b ∷ bs) some even spaced few =
    let on : _ = bytes_within (k + 2) bs (omega arith) (omega arith) spaced.4 (omega arith) in (
      (λ e. absurd (omega arith)),
      rw (first k b bs even (omega arith) spaced) (byte_within k b bs even (omega arith) spaced (written bs) on),
    )

-- ---- a short record

-- a record is begun behind whole ones, and a line ends within it
module _ (a blanks : List ℕ) (b : Written) (bs : List Written)
    (w : Whole a) (spaced : Spaced (b ∷ bs)) (few : length (b ∷ bs) < 4) (blank : Blank blanks) where
  abbrev broken : List ℕ
  broken = written (b ∷ bs) ++ (line_feed ∷ blanks)

  abbrev digits : ℕ
  digits = 2 * length (b ∷ bs)

  opens : behind start (written (b ∷ bs)) ≡ opened digits
  opens = bytes_behind 0 (b ∷ bs) refl spaced (omega arith) ∙ ap opened (zero-add digits)

  broken_behind : behind start (a ++ broken) ≡ cut_behind digits
  broken_behind =
      behind_parts start a broken
      ∙ ap (λ (s : Reading). behind s broken) w.over
      ∙ behind_parts start (written (b ∷ bs)) (line_feed ∷ blanks)
      ∙ ap (λ (s : Reading). behind s (line_feed ∷ blanks)) opens
      ∙ ap (λ (s : Reading). behind s blanks) (feed_cut digits (omega arith))
      ∙ (blanks_cut digits blanks (omega arith) (omega arith) blank).0

  abbrev others : List ℕ
  others = b.low ∷ (b.blanks ++ written bs)

  others_within : Within (after start b.high) (others ++ (line_feed ∷ blanks))
  others_within =
      within_parts (after start b.high) others (line_feed ∷ blanks)
      (rw (first 0 b bs refl (omega arith) spaced)
      (byte_within 0 b bs refl (omega arith) spaced (written bs) (bytes_within 2 bs (omega arith) refl spaced.4 (omega arith))))
      (rw opens (
        (λ z. absurd (omega arith)),
        rw (feed_cut digits (omega arith)) (blanks_cut digits blanks (omega arith) (omega arith) blank).1,
      ))

  -- it began behind them
  broken_begun : begun_in (a ++ broken) ≡ length a
  unfolding begun_in begun_from begins
  broken_begun =
      begun_parts start 0 0 a broken
      ∙ ap (λ (s : Reading). begun_from s (begun_from start 0 0 a) (0 + length a) broken) w.over
      ∙ begun_stays (after start b.high) _ _ (others ++ (line_feed ∷ blanks)) others_within
      ∙ pick_true _ _ _ (lt-ltb (digit b.high) 16 spaced.0)
      ∙ zero-add (length a)

  broken_found : (x : ℕ) (rest : List ℕ) → digit x < 16 → fault_of ((a ++ broken) ++ (x ∷ rest)) ≡ Some (length (a ++ broken))
  broken_found x rest is =
      let parts : (a ++ broken) ++ (x ∷ rest) ≡ a ++ (written (b ∷ bs) ++ (line_feed ∷ (blanks ++ (x ∷ rest)))) =
      append_assoc a broken (x ∷ rest) ∙ ap (λ (l : List ℕ). a ++ l) (append_assoc (written (b ∷ bs)) (line_feed ∷ blanks) (x ∷ rest)) in
      let at : ℕ = length a + length (written (b ∷ bs)) in
      let size : suc at + length blanks ≡ length (a ++ broken) =
      omega (arith, length-append a broken, length-append (written (b ∷ bs)) (line_feed ∷ blanks)) in
      ap fault_of parts
      ∙ whole_parts a (written (b ∷ bs) ++ (line_feed ∷ (blanks ++ (x ∷ rest)))) w
      ∙ bytes_from 0 (length a) (b ∷ bs) (line_feed ∷ (blanks ++ (x ∷ rest))) refl spaced (omega arith)
      ∙ ap (λ (k : ℕ). fault_from (opened k) at (line_feed ∷ (blanks ++ (x ∷ rest)))) (zero-add digits)
      ∙ feed_cuts digits at (blanks ++ (x ∷ rest)) (omega arith) (omega arith)
      ∙ blanks_on digits (suc at) blanks (x ∷ rest) blank (omega arith) (omega arith)
      ∙ cut_digit digits (suc at + length blanks) x rest is
      ∙ ap Some size

  -- A record of one to three bytes, whatever white space but line feeds between them, is told by how many it has, where it begins, when a
  -- digit follows on a later line.
  pub short_record_lem : (x : ℕ) (rest d d' : List ℕ) (r : Lesson) → digit x < 16
      → Unmarked ((a ++ broken) ++ (x ∷ rest)) → length ((a ++ broken) ++ (x ∷ rest)) ≤ longest
      → Reads ((a ++ broken) ++ (x ∷ rest)) d d' r
      → (r ≡ Fault (place_behind a).line (place_behind a).column (ShortRecord (length (b ∷ bs)))) × (d' ≡ d)
  short_record_lem x rest d d' r is unmarked limit reads =
      let here : character_at ((a ++ broken) ++ (x ∷ rest)) (length (a ++ broken)) ≡ x = get_or-append_seam (a ++ broken) x rest 32 in
      let even : half (behind start (a ++ broken)) ≡ false = rw broken_behind (ne_eqb (digits % 2) 1 (λ z. absurd (omega arith))) in
      let bytes : digits / 2 ≡ length (b ∷ bs) = omega arith in
      let found : _ = found_short (a ++ broken) (x ∷ rest) unmarked (rw here (known_digit x is)) even in
      let told : _ = told_by_lem _ d d' r limit reads _ (broken_found x rest is) _ found in (
        told.0
            ∙ rw (broken_begun, broken_behind, bytes, append_assoc a broken (x ∷ rest))
            (told_behind a (broken ++ (x ∷ rest)) (ShortRecord (length (b ∷ bs)))),
        told.1,
      )
