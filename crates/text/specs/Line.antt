-- A line of the listing, as the bytes of its text.
use Rattle.std.specs.Prelude.{ℕ, zero, suc, ◌+◌, ◌-◌, ◌/◌, ◌%◌, ◌≤◌, Bool, List, [], ◌∷◌, ◌++◌, ◌≡◌, ltb, leb, length}
use Rattle.std.proofs.lemmas.List.Edits.{sets}
use Rattle.base.specs.Pick.{pick}
use Rattle.base.specs.Answers.{refusal_of, value_of}
use Rattle.base.specs.declared.Answer.{Answer}

abbrev pub space : ℕ
space = 32

abbrev pub newline : ℕ
newline = 10

-- the letter A
abbrev pub letter_a : ℕ
letter_a = 65

-- a digit below ten as a byte of text
abbrev pub numeral : ℕ → ℕ
numeral d = 48 + d

-- a number whose digits are at most `more` and one, without zeros in front
unfoldable pub digits_within : ℕ → ℕ → List ℕ
digits_within zero n = numeral n ∷ []
digits_within (suc more) n = pick (ltb n 10) (numeral n ∷ []) (digits_within more (n / 10) ++ (numeral (n % 10) ∷ []))

-- a number in decimal: it has fewer digits than its own size and one
unfoldable pub decimal : ℕ → List ℕ
decimal n = digits_within n n

-- a digit below sixteen, 0 to 9 and then A to F
unfoldable pub capital : ℕ → ℕ
capital d = pick (ltb d 10) (numeral d) (letter_a - 10 + d)

-- the output as a digit
unfoldable pub output_digit : Bool → ℕ
output_digit o = pick o (numeral 1) (numeral 0)

-- what follows the refusal number
abbrev pub ending : ℕ → Bool → List ℕ
ending value output =
    space
    ∷ capital (value / 256 % 16)
    ∷ capital (value / 16 % 16)
    ∷ capital (value % 16)
    ∷ space
    ∷ output_digit output
    ∷ newline
    ∷ []

-- "A line each: record number in decimal from 0, refusal number (0 for none), answer in three hex capitals,
-- output after the event; single spaces, no header."
unfoldable pub line : ℕ → Answer → Bool → List ℕ
line n a output = decimal n ++ (space ∷ (decimal (refusal_of a) ++ ending (value_of a) output))

-- ---- a line in a buffer

-- a text has room in the buffer d from a place on
abbrev pub room : List ℕ → List ℕ → ℕ → Bool
room l d place = leb (place + length l) (length d)

-- a text of at most so many bytes put into the buffer d from a place on, and the place after it; where it has no room, the buffer and the
-- place stay
pub record Put (l : List ℕ) (most : ℕ) (d d' : List ℕ) (place r : ℕ) : Type 0 where
  pub next : r ≡ pick (room l d place) (place + length l) place
  pub bytes : d' ≡ pick (room l d place) (sets d place l) d
  pub short : length l ≤ most

-- no line of a 64-bit number and an 8-bit refusal is longer: 20 digits, 3 digits, and 8 bytes more
abbrev pub longest : ℕ
longest = 31

-- the line of record n put so
abbrev pub Puts : ℕ → Answer → Bool → List ℕ → List ℕ → ℕ → ℕ → Type 0
Puts n a output d d' place r = Put (line n a output) longest d d' place r
