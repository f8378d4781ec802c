-- Reading from end to end: what was written is handed out.
use Rattle.std.specs.Prelude.{ℕ, zero, suc, ◌*◌, ◌/◌, ◌%◌, ◌≤◌, ◌<◌, Bool, List, [], ◌∷◌, ◌++◌, ◌≡◌, refl, ltb, length, Option, Some, None}
use Rattle.std.proofs.Common.{sym, ap, subst, ◌∙◌, arith, le-ltb, ltb-false}
use Rattle.std.proofs.lemmas.List.Edits.{sets}
use Rattle.base.specs.Pick.{pick}
use Rattle.base.specs.PickLaws.{pick_false, pick_either, pick_cases}
use Rattle.text.specs.Hex.{digit}
use Rattle.lesson.specs.Text.{line_feed, apart, commented, bytes_of}
use Rattle.lesson.specs.TextLaws.{letter_worth, plain_back}
use Rattle.lesson.specs.Fault.{start, faulty, next, after, behind, fault_from, fault_of}
use Rattle.lesson.specs.FaultLaws.{opened, digit_on, digit_after, Whole}
use Rattle.lesson.specs.Lesson.{longest, answer_by, lesson_of, handed_out, Reads}
use Rattle.lesson.specs.Plain.{letter, two, plain}
use Rattle.lesson.specs.Plain as Plain-Form
use Rattle.lesson.specs.declared.faults.Reading.{Reading}
use Rattle.lesson.specs.declared.Lesson.{Lesson}
use Rattle.lesson.specs.declared.Lesson.TheVariants.{Bytes, Fault, TooLong, NoRoom}

-- ---- the plain form has no fault

-- a byte in the plain form is read, behind k digits of its record
byte_on : (small : Bool) (k m at b : ℕ) (l : List ℕ) → b < 256 → next (next k) ≡ m
    → fault_from (opened k) at (two small b ++ l) ≡ fault_from (opened m) (suc (suc at)) l
byte_on small k m at b l h e =
    let high : digit (letter small (b / 16)) ≡ b / 16 = letter_worth small (b / 16) (omega arith) in
    let low : digit (letter small (b % 16)) ≡ b % 16 = letter_worth small (b % 16) (omega arith) in
    digit_on k at (letter small (b / 16)) (letter small (b % 16) ∷ l) (omega arith)
    ∙ digit_on (next k) (suc at) (letter small (b % 16)) l (omega arith)
    ∙ rw e

byte_behind : (small : Bool) (k m b : ℕ) (l : List ℕ) → b < 256 → next (next k) ≡ m
    → behind (opened k) (two small b ++ l) ≡ behind (opened m) l
byte_behind small k m b l h e =
    let high : digit (letter small (b / 16)) ≡ b / 16 = letter_worth small (b / 16) (omega arith) in
    let low : digit (letter small (b % 16)) ≡ b % 16 = letter_worth small (b % 16) (omega arith) in
    rw (digit_after k (letter small (b / 16)) (omega arith), digit_after (next k) (letter small (b % 16)) (omega arith), e)

-- the digits of a record come round
pairs : (next (next 0) ≡ 2) × (next (next 2) ≡ 4) × (next (next 4) ≡ 6) × (next (next 6) ≡ 0)
unfolding next pick
pairs = (refl, refl, refl, refl)

ends : (at : ℕ) → (fault_from start at [] ≡ None) × (fault_from (opened 2) at [] ≡ None)
    × (fault_from (opened 4) at [] ≡ None) × (fault_from (opened 6) at [] ≡ None)
unfolding fault_from pick
ends at = (refl, refl, refl, refl)

feed_fine : (at : ℕ) (l : List ℕ) → fault_from start at (line_feed ∷ l) ≡ fault_from start (suc at) l
unfolding fault_from faulty after commented digit apart pick
feed_fine at l = refl

feed_after : after start line_feed ≡ start
unfolding after commented digit pick
feed_after = refl

plain_from : (small : Bool) (at : ℕ) (bs : List ℕ) → Plain-Form.Bytes bs → fault_from start at (plain small bs) ≡ None
unfolding plain
plain_from small at [] all = (ends at).0
plain_from small at (a ∷ []) all = byte_on small 0 2 at a [] all.0 pairs.0 ∙ (ends _).1
plain_from small at (a ∷ b ∷ []) all =
    byte_on small 0 2 at a (two small b) all.0 pairs.0 ∙ byte_on small 2 4 _ b [] all.1.0 pairs.1 ∙ (ends _).2
plain_from small at (a ∷ b ∷ c ∷ []) all =
    byte_on small 0 2 at a (two small b ++ two small c) all.0 pairs.0
    ∙ byte_on small 2 4 _ b (two small c) all.1.0 pairs.1
    ∙ byte_on small 4 6 _ c [] all.1.1.0 pairs.2
    ∙ (ends _).3
plain_from small at (a ∷ b ∷ c ∷ d ∷ rest) all =
    byte_on small 0 2 at a (two small b ++ (two small c ++ (two small d ++ (line_feed ∷ plain small rest)))) all.0 pairs.0
    ∙ byte_on small 2 4 _ b (two small c ++ (two small d ++ (line_feed ∷ plain small rest))) all.1.0 pairs.1
    ∙ byte_on small 4 6 _ c (two small d ++ (line_feed ∷ plain small rest)) all.1.1.0 pairs.2
    ∙ byte_on small 6 0 _ d (line_feed ∷ plain small rest) all.1.1.1.0 pairs.3
    ∙ feed_fine _ (plain small rest)
    ∙ plain_from small _ rest all.1.1.1.1

plain_behind : (small : Bool) (k : ℕ) (bs : List ℕ) → Plain-Form.Bytes bs → length bs ≡ 4 * k → behind start (plain small bs) ≡ start
unfolding plain
plain_behind small k [] all e = refl
plain_behind small zero (a ∷ bs) all e = absurd (omega arith)
plain_behind small (suc k) (a ∷ []) all e = absurd (omega arith)
plain_behind small (suc k) (a ∷ b ∷ []) all e = absurd (omega arith)
plain_behind small (suc k) (a ∷ b ∷ c ∷ []) all e = absurd (omega arith)
plain_behind small (suc k) (a ∷ b ∷ c ∷ d ∷ rest) all e =
    byte_behind small 0 2 a (two small b ++ (two small c ++ (two small d ++ (line_feed ∷ plain small rest)))) all.0 pairs.0
    ∙ byte_behind small 2 4 b (two small c ++ (two small d ++ (line_feed ∷ plain small rest))) all.1.0 pairs.1
    ∙ byte_behind small 4 6 c (two small d ++ (line_feed ∷ plain small rest)) all.1.1.0 pairs.2
    ∙ byte_behind small 6 0 d (line_feed ∷ plain small rest) all.1.1.1.0 pairs.3
    ∙ ap (λ (s : Reading). behind s (plain small rest)) feed_after
    ∙ plain_behind small k rest all.1.1.1.1 (omega arith)

-- whole records in the plain form are whole
pub plain_whole : (small : Bool) (k : ℕ) (bs : List ℕ) → Plain-Form.Bytes bs → length bs ≡ 4 * k → Whole (plain small bs)
unfolding fault_of
plain_whole small k bs all e = record { good = plain_from small 0 bs all; over = plain_behind small k bs all e }

-- ---- reading from end to end

-- whatever bytes are written in the plain form, with small letters or with capitals, reading hands out
pub reads_back : (small : Bool) (bs d d' : List ℕ) (r : Lesson) → Plain-Form.Bytes bs
    → length bs ≤ length d → length (plain small bs) ≤ longest → Reads (plain small bs) d d' r
    → (r ≡ Bytes (length bs)) × (d' ≡ sets d 0 bs)
unfolding fault_of lesson_of answer_by handed_out
reads_back small bs d d' r all room limit reads =
    let good : fault_of (plain small bs) ≡ None = plain_from small 0 bs all in
    let same : bytes_of (plain small bs) ≡ bs = plain_back small bs all in
    let is : r ≡ Bytes (length bs) =
    reads.told
    ∙ pick_false _ _ _ (le-ltb longest (length (plain small bs)) limit)
    ∙ rw (good, same) (pick_false _ _ _ (le-ltb (length d) (length bs) room)) in
    (is, reads.bytes ∙ rw (is, same))

-- as many bytes as an answer tells, or more, were lent
abbrev pub Fits : Lesson → ℕ → Type 0
Fits (Bytes n) room = n ≤ room
Fits (Fault line column cause) room = Unit {0}
Fits TooLong room = Unit {0}
Fits NoRoom room = Unit {0}

answer_fits : (f : Option ℕ) (text : List ℕ) (room : ℕ) → Fits (answer_by f text room) room
unfolding answer_by
answer_fits (Some at) text room = tt
answer_fits None text room =
    pick_cases (λ (r : Lesson). Fits r room) (ltb room (length (bytes_of text))) NoRoom (Bytes (length (bytes_of text)))
    (λ more. tt)
    (λ less. ltb-false room (length (bytes_of text)) less)

pub bytes_fit : (text d d' : List ℕ) (n : ℕ) → Reads text d d' (Bytes n) → n ≤ length d
unfolding lesson_of
bytes_fit text d d' n reads =
    subst (λ (r : Lesson). Fits r (length d)) (sym reads.told)
    (pick_either (λ (r : Lesson). Fits r (length d)) (ltb longest (length text)) _ _ tt (answer_fits (fault_of text) text (length d)))
