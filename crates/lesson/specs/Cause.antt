-- What a fault is told as, and where: rules 6 and 7 of Text.
use Rattle.std.specs.Prelude.{ℕ, suc, ◌-◌, ◌/◌, Bool, false, not, ◌&&◌, ◌||◌, List, [], ◌∷◌, eqb, take, get_or}
use Rattle.base.specs.Pick.{pick}
use Rattle.lesson.specs.Text.{space, is_digit, apart}
use Rattle.lesson.specs.Fault.{start, half, after, behind}
use Rattle.lesson.specs.declared.Cause.TheVariants.{NoDigit, OneDigit, ShortRecord, ByteOrderMark, Utf16}
use Rattle.lesson.specs.declared.causes.Finding.{Finding}
use Rattle.lesson.specs.declared.faults.Reading.{Reading}

-- a character of the text; the text's end is as a space
abbrev pub character_at : List ℕ → ℕ → ℕ
character_at text at = get_or text at space

-- ---- where a record begins

-- whether a character is the first digit of a record
unfoldable pub begins : Reading → ℕ → Bool
begins s c = not s.comment && eqb s.digits 0 && is_digit c

-- how many characters stand before the record that was begun last, of which `begun` was the last so far
unfoldable pub begun_from : Reading → ℕ → ℕ → List ℕ → ℕ
begun_from s begun at [] = begun
begun_from s begun at (c ∷ rest) = begun_from (after s c) (pick (begins s c) at begun) (suc at) rest

unfoldable pub begun_in : List ℕ → ℕ
begun_in text = begun_from start 0 0 text

-- ---- by where reading stops

-- neither a digit nor what may stand between two bytes
unfoldable pub alien : ℕ → Bool
alien c = pick (is_digit c) false (not (apart c))

-- Reading has found a fault behind so many characters. Where an alien character stands next, it is that. If not, either one digit of a byte is
-- read, and it is that digit; or a line has ended within a record, and it is that record.
unfoldable pub stopped_at : List ℕ → ℕ → Finding
stopped_at text at =
    pick (alien (character_at text at)) (record { at = at; cause = NoDigit })
    (pick (half (behind start (take at text))) (record { at = at - 1; cause = OneDigit })
    (record { at = begun_in (take at text); cause = ShortRecord ((behind start (take at text)).digits / 2) }))

-- ---- by how the text begins

-- EF BB BF
unfoldable pub marked : List ℕ → Bool
marked text = eqb (character_at text 0) 0xEF && eqb (character_at text 1) 0xBB && eqb (character_at text 2) 0xBF

-- FF FE, FE FF, or 00 among the first two
unfoldable pub wide : List ℕ → Bool
wide text =
    (eqb (character_at text 0) 0xFF && eqb (character_at text 1) 0xFE)
    || (eqb (character_at text 0) 0xFE && eqb (character_at text 1) 0xFF)
    || eqb (character_at text 0) 0
    || eqb (character_at text 1) 0

-- the cause and the place of a fault that reading has found behind so many characters
unfoldable pub finding : List ℕ → ℕ → Finding
finding text at =
    pick (marked text) (record { at = 0; cause = ByteOrderMark }) (pick (wide text) (record { at = 0; cause = Utf16 }) (stopped_at text at))
