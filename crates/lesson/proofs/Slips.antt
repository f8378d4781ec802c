-- Closed texts, character by character: what is read of them is false under the slips of must-fail/.
use Prim.Native.Nat.{ℕ}
use mathlib.Core.List.{List, [], ◌∷◌}
use mathlib.Core.Path.{◌≡◌, refl}
use Rattle.base.specs.Pick.{pick}
use Rattle.text.specs.Hex.{digit}
use Rattle.lesson.specs.Text.{apart, commented, uncommented, worths, paired, digits_of, bytes_of}
use Rattle.lesson.specs.Fault.{faulty, next, after, fault_from, fault_of}
use Rattle.lesson.specs.Cause.{finding, stopped_at, marked, wide, alien, begins, begun_from, begun_in}
use Rattle.lesson.specs.Comments.{in_text, due_behind, reach, reached, place_after, goes_on, run, run_end, comment_from, comment_at, comment_of}
use Rattle.lesson.specs.Place.{onward, place_from, place_behind}
use Rattle.lesson.specs.Lesson.{answer_by, lesson_of}
use Rattle.lesson.specs.declared.Lesson.{Lesson}
use Rattle.lesson.specs.declared.Lesson.TheVariants.{Bytes, Fault, TooLong, NoRoom}
use Rattle.lesson.specs.declared.Cause.{Cause}
use Rattle.lesson.specs.declared.Cause.TheVariants.{NoDigit, OneDigit, ShortRecord, ByteOrderMark, Utf16}

-- a cause in numbers; a short record has how many bytes it has
abbrev caused : Cause → List ℕ
caused NoDigit = 10 ∷ []
caused OneDigit = 20 ∷ []
caused (ShortRecord bytes) = 30 ∷ bytes ∷ []
caused ByteOrderMark = 40 ∷ []
caused Utf16 = 50 ∷ []

-- an answer in numbers: how many bytes, or line, column and cause
abbrev numbers : Lesson → List ℕ
numbers (Bytes n) = n ∷ []
numbers (Fault line column cause) = line ∷ column ∷ caused cause
numbers TooLong = []
numbers NoRoom = []

-- what is answered to a text where four bytes have room; it opens what reading computes with
unfoldable answer : List ℕ → List ℕ
unfolding lesson_of answer_by finding stopped_at marked wide alien begins begun_from begun_in
    fault_of fault_from faulty next after place_behind place_from onward bytes_of digits_of paired worths uncommented commented apart digit pick
answer text = numbers (lesson_of text 4)

-- `later_line`; 08000000, a line feed, x
columns_count_from_1 : answer (48 ∷ 56 ∷ 48 ∷ 48 ∷ 48 ∷ 48 ∷ 48 ∷ 48 ∷ 10 ∷ 120 ∷ []) ≡ 2 ∷ 1 ∷ 10 ∷ []
unfolding answer
columns_count_from_1 = refl

-- `written_record`; 08, a number sign
number_sign_begins_a_comment : answer (48 ∷ 56 ∷ 35 ∷ []) ≡ 1 ∷ []
unfolding answer
number_sign_begins_a_comment = refl

-- `short_record_lem`; a space, 08, a number sign, two line feeds, 00: told at the first line's second column, where the record begins
short_record_is_told_at_its_start : answer (32 ∷ 48 ∷ 56 ∷ 35 ∷ 10 ∷ 10 ∷ 48 ∷ 48 ∷ []) ≡ 1 ∷ 2 ∷ 30 ∷ 1 ∷ []
unfolding answer
short_record_is_told_at_its_start = refl

-- the comment of a text's first record; it opens what finding it computes with
unfoldable comment_found : List ℕ → List ℕ
unfolding place_after reached in_text reach due_behind comment_of comment_at comment_from run_end run goes_on commented digit pick
comment_found text = comment_of text (place_after text 0 8)

-- `no_comment`; 08000000, a line feed, a number sign
comment_stands_on_its_line : comment_found (48 ∷ 56 ∷ 48 ∷ 48 ∷ 48 ∷ 48 ∷ 48 ∷ 48 ∷ 10 ∷ 35 ∷ []) ≡ []
unfolding comment_found
comment_stands_on_its_line = refl
