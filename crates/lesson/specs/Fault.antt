-- The faults of a text, by the rules at the head of Text.
use Rattle.std.specs.Prelude.{ℕ, suc, ◌+◌, ◌%◌, Bool, true, false, not, List, [], ◌∷◌, ltb, eqb, Option, Some, None}
use Rattle.base.specs.Pick.{pick}
use Rattle.lesson.specs.Text.{is_digit, apart, commented, line_feed}
use Rattle.lesson.specs.declared.faults.Reading.{Reading}

-- before the first character: no digit of a record is read, no line has ended within one, and no comment goes on
abbrev pub start : Reading
start = record { digits = 0; cut = false; comment = false }

-- the second digit of a byte is due
abbrev pub half : Reading → Bool
half s = eqb (s.digits % 2) 1

-- Whether a character is a fault. In a comment none is. A digit is one where a line has ended within its record. White space and the
-- start of a comment are one where a second digit is due. Any other character is.
unfoldable pub faulty : Reading → ℕ → Bool
faulty s c = pick s.comment false (pick (is_digit c) s.cut (pick (apart c) (half s) true))

-- a record has eight digits
unfoldable pub next : ℕ → ℕ
next digits = pick (ltb digits 7) (digits + 1) 0

-- where reading stands behind a character that is no fault
unfoldable pub after : Reading → ℕ → Reading
after s c =
    pick (commented s.comment c) (record { digits = s.digits; cut = s.cut; comment = true })
    (pick (is_digit c) (record { digits = next s.digits; cut = s.cut; comment = false })
    (pick (eqb c line_feed) (record { digits = s.digits; cut = not (eqb s.digits 0); comment = false }) s))

-- where reading stands behind some characters that are none
abbrev pub behind : Reading → List ℕ → Reading
behind s [] = s
behind s (c ∷ rest) = behind (after s c) rest

-- where the first fault from a place on is found: how many characters of the text stand before it
unfoldable pub fault_from : Reading → ℕ → List ℕ → Option ℕ
fault_from s at [] = pick (half s) (Some at) None
fault_from s at (c ∷ rest) = pick (faulty s c) (Some at) (fault_from (after s c) (suc at) rest)

unfoldable pub fault_of : List ℕ → Option ℕ
fault_of text = fault_from start 0 text
