-- The head of a record's page: its line of the listing.
use Rattle.std.specs.Prelude.{ℕ, ◌-◌, ◌/◌, ◌%◌, Bool, List, [], ◌∷◌, ◌++◌, length, take, replicate}
use Rattle.base.specs.declared.Answer.{Answer}
use Rattle.text.specs.Quoted.{quoted}
use Rattle.text.specs.Line.{space, capital, output_digit, line}

-- the answer in three hex capitals, and the output after the event, each behind a blank
unfoldable pub figures_shown : ℕ → Bool → List ℕ
figures_shown value output =
    space ∷ capital (value / 256 % 16) ∷ capital (value / 16 % 16) ∷ capital (value % 16) ∷ space ∷ output_digit output ∷ []

-- "without its line feed"
abbrev pub unended : List ℕ → List ℕ
unended l = take (length l - 1) l

-- "blanks up to column 12, one at least", behind so many bytes
unfoldable pub blanks : ℕ → List ℕ
blanks size = quoted " " ++ replicate (11 - size) space

abbrev pub padded : List ℕ → List ℕ
padded l = l ++ blanks (length l)

-- "the line as it was, without its line feed, and blanks up to column 12, one at least"
unfoldable pub head_words : ℕ → Answer → Bool → List ℕ
head_words n a output = padded (unended (line n a output))
