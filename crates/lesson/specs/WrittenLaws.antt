-- Some lessons, character by character: no name stands between the reader and the codes that an editor writes.
use Rattle.std.specs.Prelude.{[], ◌∷◌, ◌≡◌, refl}
use Rattle.base.specs.Pick.{pick}
use Rattle.text.specs.Hex.{digit}
use Rattle.lesson.specs.Text.{apart, commented, uncommented, worths, paired, digits_of, bytes_of}
use Rattle.lesson.specs.Fault.{faulty, next, after, fault_from, fault_of}
use Rattle.lesson.specs.Cause.{finding, stopped_at, marked, wide, alien, begins, begun_from, begun_in}
use Rattle.lesson.specs.Place.{onward, place_from, place_behind}
use Rattle.lesson.specs.Lesson.{answer_by, lesson_of}
use Rattle.lesson.specs.declared.Lesson.TheVariants.{Bytes, Fault}
use Rattle.lesson.specs.declared.Cause.TheVariants.{NoDigit, OneDigit, ShortRecord, ByteOrderMark, Utf16}

-- 08, a space, 0a, a tab, 00F0, a space, a number sign, a space, 9, a carriage return, a line feed: one record, and a comment
pub written_record :
    (lesson_of (48 ∷ 56 ∷ 32 ∷ 48 ∷ 97 ∷ 9 ∷ 48 ∷ 48 ∷ 70 ∷ 48 ∷ 32 ∷ 35 ∷ 32 ∷ 57 ∷ 13 ∷ 10 ∷ []) 4 ≡ Bytes 4)
    × (bytes_of (48 ∷ 56 ∷ 32 ∷ 48 ∷ 97 ∷ 9 ∷ 48 ∷ 48 ∷ 70 ∷ 48 ∷ 32 ∷ 35 ∷ 32 ∷ 57 ∷ 13 ∷ 10 ∷ []) ≡ 0x08 ∷ 0x0A ∷ 0x00 ∷ 0xF0 ∷ [])
unfolding lesson_of answer_by fault_of fault_from faulty next after bytes_of digits_of paired worths uncommented commented apart digit pick
written_record = (refl, refl)

-- a space, 080000, a line feed, a space, 08: a byte is forgotten, and the record is told that has three, at the second column of its own line
pub written_fault : lesson_of (32 ∷ 48 ∷ 56 ∷ 48 ∷ 48 ∷ 48 ∷ 48 ∷ 10 ∷ 32 ∷ 48 ∷ 56 ∷ []) 4 ≡ Fault 1 2 (ShortRecord 3)
unfolding lesson_of answer_by finding stopped_at marked wide alien begins begun_from begun_in
    fault_of fault_from faulty next after place_behind place_from onward bytes_of digits_of paired worths uncommented commented apart digit pick
written_fault = refl

-- 08000000, a carriage return, a line feed, a number sign, x: a carriage return between records, and a comment in which the text ends
pub written_ends : lesson_of (48 ∷ 56 ∷ 48 ∷ 48 ∷ 48 ∷ 48 ∷ 48 ∷ 48 ∷ 13 ∷ 10 ∷ 35 ∷ 120 ∷ []) 4 ≡ Bytes 4
unfolding lesson_of answer_by fault_of fault_from faulty next after bytes_of digits_of paired worths uncommented commented apart digit pick
written_ends = refl

-- 0800, a number sign, x, a line feed, 00: a line ends within a record behind a comment
pub written_cut : lesson_of (48 ∷ 56 ∷ 48 ∷ 48 ∷ 35 ∷ 120 ∷ 10 ∷ 48 ∷ 48 ∷ []) 4 ≡ Fault 1 1 (ShortRecord 2)
unfolding lesson_of answer_by finding stopped_at marked wide alien begins begun_from begun_in
    fault_of fault_from faulty next after place_behind place_from onward bytes_of digits_of paired worths uncommented commented apart digit pick
written_cut = refl

-- 08, a space, 00, a tab, a line feed, 00: white space between the bytes of a short record is none of them
pub written_apart : lesson_of (48 ∷ 56 ∷ 32 ∷ 48 ∷ 48 ∷ 9 ∷ 10 ∷ 48 ∷ 48 ∷ []) 4 ≡ Fault 1 1 (ShortRecord 2)
unfolding lesson_of answer_by finding stopped_at marked wide alien begins begun_from begun_in
    fault_of fault_from faulty next after place_behind place_from onward bytes_of digits_of paired worths uncommented commented apart digit pick
written_apart = refl

-- 0800, a line feed: the text ends within a record, behind a line's end
pub written_short : lesson_of (48 ∷ 56 ∷ 48 ∷ 48 ∷ 10 ∷ []) 4 ≡ Bytes 2
unfolding lesson_of answer_by fault_of fault_from faulty next after bytes_of digits_of paired worths uncommented commented apart digit pick
written_short = refl

-- 08000000, a line feed, 0, a carriage return: one digit alone, on the second line
pub written_alone : lesson_of (48 ∷ 56 ∷ 48 ∷ 48 ∷ 48 ∷ 48 ∷ 48 ∷ 48 ∷ 10 ∷ 48 ∷ 13 ∷ []) 4 ≡ Fault 2 1 OneDigit
unfolding lesson_of answer_by finding stopped_at marked wide alien begins begun_from begun_in
    fault_of fault_from faulty next after place_behind place_from onward bytes_of digits_of paired worths uncommented commented apart digit pick
written_alone = refl

-- 0, G: the second digit of a byte is none
pub written_letter : lesson_of (48 ∷ 71 ∷ []) 4 ≡ Fault 1 2 NoDigit
unfolding lesson_of answer_by finding stopped_at marked wide alien begins begun_from begun_in
    fault_of fault_from faulty next after place_behind place_from onward bytes_of digits_of paired worths uncommented commented apart digit pick
written_letter = refl

-- EF BB BF, 0; and EF BB alone, which is no byte order mark
pub written_mark : (lesson_of (0xEF ∷ 0xBB ∷ 0xBF ∷ 48 ∷ []) 4 ≡ Fault 1 1 ByteOrderMark)
    × (lesson_of (0xEF ∷ 0xBB ∷ []) 4 ≡ Fault 1 1 NoDigit)
unfolding lesson_of answer_by finding stopped_at marked wide alien begins begun_from begun_in
    fault_of fault_from faulty next after place_behind place_from onward bytes_of digits_of paired worths uncommented commented apart digit pick
written_mark = (refl, refl)

-- 0 as UTF-16 writes it, the low byte first or the high one, with FF FE or FE FF before it or without; and a number sign and a line feed, the low
-- byte first
pub written_wide : (lesson_of (0xFF ∷ 0xFE ∷ 48 ∷ 0 ∷ []) 4 ≡ Fault 1 1 Utf16) × (lesson_of (0xFE ∷ 0xFF ∷ 0 ∷ 48 ∷ []) 4 ≡ Fault 1 1 Utf16)
    × (lesson_of (48 ∷ 0 ∷ []) 4 ≡ Fault 1 1 Utf16) × (lesson_of (0 ∷ 48 ∷ []) 4 ≡ Fault 1 1 Utf16)
    × (lesson_of (35 ∷ 0 ∷ 10 ∷ 0 ∷ []) 4 ≡ Fault 1 1 Utf16)
unfolding lesson_of answer_by finding stopped_at marked wide alien begins begun_from begun_in
    fault_of fault_from faulty next after place_behind place_from onward bytes_of digits_of paired worths uncommented commented apart digit pick
written_wide = (refl, refl, refl, refl, refl)
