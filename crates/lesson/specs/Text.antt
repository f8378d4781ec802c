-- The text of a lesson: its characters, its comments, and the bytes that it has. What a text must keep to is in Fault.
--
-- A lesson is written in an editor, and its text goes by these rules:
--  1. A byte is two hexadecimal digits, capital or small, that stand together. A record is four bytes.
--  2. Space, tab, carriage return and line feed are white space. It may stand between records; and, but for the line feed, between the bytes
--     of one record.
--  3. A number sign begins a comment, which runs to the end of the line.
--  4. A record stands on one line. Where a line ends within a record, with or without a comment, the next digit of the text is a fault.
--     But the text may end within a record: what there is of it goes to the bench, which refuses it by number 4.
--  5. Any other character is a fault. Where a byte's second digit is due, so is white space, a comment or the text's end.
--  6. The first fault, in the order of reading, is told by its cause and its place: no digit, at the character of rule 5; one digit alone, at
--     that digit; a record of fewer than four bytes, and of how many, at its first digit, which stands on an earlier line than the digit of rule 4.
--  7. Where a text that has a fault begins with a byte order mark (EF BB BF), or as UTF-16 does (FF FE, FE FF, or 00 among the first two bytes),
--     that is its cause, and its place the text's start.
--  8. A place is a line and a column, both from 1. A column is one byte of the text, and a line ends after a line feed.
--  9. A text of more than 4294967295 characters is not read, nor one whose bytes do not fit the buffer, and which of the two is told.
use Rattle.std.specs.Prelude.{ℕ, ◌+◌, ◌*◌, Bool, true, false, ◌||◌, List, [], ◌∷◌, ltb, eqb}
use Rattle.base.specs.Pick.{pick}
use Rattle.text.specs.Hex.{digit}

-- ---- characters

abbrev pub tab : ℕ
tab = 9

abbrev pub line_feed : ℕ
line_feed = 10

abbrev pub carriage_return : ℕ
carriage_return = 13

abbrev pub space : ℕ
space = 32

abbrev pub number_sign : ℕ
number_sign = 35

abbrev pub is_digit : ℕ → Bool
is_digit c = ltb (digit c) 16

abbrev pub white : ℕ → Bool
white c = eqb c space || eqb c tab || eqb c carriage_return || eqb c line_feed

-- what may stand between two bytes: white space, and the number sign
unfoldable pub apart : ℕ → Bool
apart c = white c || eqb c number_sign

-- ---- comments

-- whether a character belongs to a comment, given whether the one before it does
unfoldable pub commented : Bool → ℕ → Bool
commented comment c = pick (eqb c number_sign) true (pick (eqb c line_feed) false comment)

-- the text without its comments, given whether it begins within one
unfoldable pub uncommented : Bool → List ℕ → List ℕ
uncommented comment [] = []
uncommented comment (c ∷ rest) = pick (commented comment c) (uncommented true rest) (c ∷ uncommented false rest)

-- ---- bytes

-- the worths of the digits among some characters
unfoldable pub worths : List ℕ → List ℕ
worths [] = []
worths (c ∷ rest) = pick (is_digit c) (digit c ∷ worths rest) (worths rest)

-- digits two by two
unfoldable pub paired : List ℕ → List ℕ
paired [] = []
paired (high ∷ []) = []
paired (high ∷ low ∷ rest) = (16 * high + low) ∷ paired rest

unfoldable pub digits_of : List ℕ → List ℕ
digits_of text = worths (uncommented false text)

-- the bytes of a text: its digits outside comments, two by two
unfoldable pub bytes_of : List ℕ → List ℕ
bytes_of text = paired (digits_of text)
