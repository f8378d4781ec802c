-- When a save is due, as the word behind `--save-at` says it, by the words of the program:
--  1. `start` is before the first record, that is behind none; `end` is behind the last, however many there are.
--  2. A decimal number, with zeros in front or not, is the record's number in the listing, which counts from 0: the save is due behind that record.
--  3. It may have as many digits as one likes. Where it is 2 ^ 60 or more, digits that follow no longer count; no run has so many records.
use Rattle.std.specs.Prelude.{ℕ, ◌+◌, ◌*◌, Bool, true, false, ◌&&◌, List, [], ◌∷◌, eqb, ltb, length, Option, Some, None}
use Prim.Native.String.{String}
use Rattle.base.specs.Pick.{pick}
use Rattle.text.specs.Quoted.{quoted}
use Rattle.text.specs.Hex.{digit as worth}
use Rattle.options.specs.declared.Moment.{Moment}
use Rattle.options.specs.declared.Moment.TheVariants.{Behind, End}

-- ---- a word by its bytes

unfoldable pub same_bytes : List ℕ → List ℕ → Bool
same_bytes [] [] = true
same_bytes [] (b ∷ other) = false
same_bytes (a ∷ word) [] = false
same_bytes (a ∷ word) (b ∷ other) = eqb a b && same_bytes word other

abbrev pub is : String → List ℕ → Bool
is text word = same_bytes word (quoted text)

-- ---- a number

-- more than any run has records
abbrev pub many : ℕ
many = 1152921504606846976

-- a number with one more digit behind it
unfoldable pub with_digit : ℕ → ℕ → ℕ
with_digit n digit = pick (ltb n many) (10 * n + digit) n

-- behind the record of the number that digits are, of which those so far are n
unfoldable pub number_from : ℕ → List ℕ → Option Moment
number_from n [] = Some (Behind (n + 1))
number_from n (c ∷ rest) = pick (ltb (worth c) 10) (number_from (with_digit n (worth c)) rest) None

-- ---- the word, where it says when

-- one digit at least
unfoldable pub number_of : List ℕ → Option Moment
number_of word = pick (eqb (length word) 0) None (number_from 0 word)

unfoldable pub moment_of : List ℕ → Option Moment
moment_of word = pick (is "start" word) (Some (Behind 0)) (pick (is "end" word) (Some End) (number_of word))
