-- The four numbers that a settings line is written from, by the words of the program:
--  1. A line has CLOCK DIVISOR LCR ROOM, with one blank between two of them and nothing else: no blank before the first or behind the last.
--  2. Each is a number of one digit or more, as many as one likes, with zeros in front or not. The LCR byte has hexadecimal digits, capital or
--     small; the others have decimal ones.
--  3. A number too large for its type is taken for the largest that there is: 65535 for the divisor, 255 for clock and LCR byte. None of them is
--     listed, and no settings line gives that byte. A room for more than 13 bytes, which no line has, is taken for one of 13.
use Rattle.std.specs.Prelude.{ℕ, ◌+◌, ◌*◌, Bool, true, false, not, ◌&&◌, List, [], ◌∷◌, ltb, leb, eqb, get_or, set, replicate, Option, Some, None}
use Rattle.base.specs.Pick.{pick}
use Rattle.text.specs.Hex.{digit as worth}
use Rattle.text.specs.Line.{space}
use Rattle.sheets.specs.Limits.{up_to}
use Rattle.sheets.specs.declared.Numbers.{Numbers}

-- ---- digits

-- the LCR byte stands at place 2, counted from 0
unfoldable pub base : ℕ → ℕ
base place = pick (eqb place 2) 16 10

-- ---- the line as far as it is read

-- before the first character
abbrev pub no_numbers : Numbers
no_numbers = record { values = replicate 4 0; place = 0; begun = false }

-- not four numbers, whatever follows
abbrev pub spoilt : Numbers → Numbers
spoilt s = record { values = s.values; place = 4; begun = false }

abbrev pub number : ℕ → Numbers → ℕ
number k s = get_or s.values k 0

-- one more digit of the number that is being read
unfoldable pub with_digit : Numbers → ℕ → Numbers
with_digit s d = record {
  values = set s.values s.place (up_to 65535 (base s.place * number s.place s + d));
  place = s.place;
  begun = true;
}

-- a blank stands behind each number but the last
unfoldable pub with_blank : Numbers → Numbers
with_blank s = pick (s.begun && ltb s.place 3) (record { values = s.values; place = s.place + 1; begun = false }) (spoilt s)

-- behind one more character
unfoldable pub numbers_after : Numbers → ℕ → Numbers
numbers_after s c =
    pick (leb 4 s.place) s
    (pick (eqb c space) (with_blank s) (pick (ltb (worth c) (base s.place)) (with_digit s (worth c)) (spoilt s)))

-- behind some characters, one after the other
abbrev pub numbers_behind : Numbers → List ℕ → Numbers
numbers_behind s [] = s
numbers_behind s (c ∷ rest) = numbers_behind (numbers_after s c) rest

-- ---- what is read

-- the line has no character yet
unfoldable pub unread : Numbers → Bool
unread s = eqb s.place 0 && not s.begun

-- four numbers are read
unfoldable pub four : Numbers → Bool
four s = eqb s.place 3 && s.begun

-- as a byte
abbrev pub byte : ℕ → ℕ
byte n = up_to 255 n

-- the room, as far as a line can need it
abbrev pub room : ℕ → ℕ
room n = up_to 13 n

-- a word is a clock where it is one number, read as the first of four
unfoldable pub clock_in : Numbers → Option ℕ
clock_in s = pick (eqb s.place 0 && s.begun) (Some (byte (number 0 s))) None

abbrev pub clock_of : List ℕ → Option ℕ
clock_of word = clock_in (numbers_behind no_numbers word)
