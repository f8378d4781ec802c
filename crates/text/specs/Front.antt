-- A line by the digits of its number before the last, which many numbers share.
use Rattle.std.specs.Prelude.{ℕ, ◌/◌, ◌%◌, Bool, List, [], ◌∷◌, ◌++◌, ltb}
use Rattle.base.specs.Pick.{pick}
use Rattle.base.specs.Answers.{refusal_of, value_of}
use Rattle.base.specs.declared.Answer.{Answer}
use Rattle.text.specs.Line.{space, numeral, decimal, ending}

-- the digits before the last: none of a number below ten
unfoldable pub front : ℕ → List ℕ
front n = pick (ltb n 10) [] (decimal (n / 10))

-- a line that begins with some bytes, and goes on with the last digit of n
unfoldable pub line_after : List ℕ → ℕ → Answer → Bool → List ℕ
line_after l n a output = l ++ (numeral (n % 10) ∷ space ∷ (decimal (refusal_of a) ++ ending (value_of a) output))

-- no more bytes follow: the last digit, 3 of a refusal, and 8 more
abbrev pub rest : ℕ
rest = 12
