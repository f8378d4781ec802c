-- The variables of a timeline, each of one bit, "in the order in which they are declared".
use Rattle.std.specs.Prelude.{ℕ, zero, suc, ◌-◌, Bool, List, [], ◌∷◌, ◌++◌, ltb}
use Rattle.base.specs.Pick.{pick}
use Rattle.base.specs.Bits.{bit}
use Rattle.text.specs.Line.{decimal}
use Rattle.text.specs.Quoted.{quoted}
use Rattle.sight.specs.Sights.{look_at}
use Rattle.sight.specs.declared.Sight.{Sight}

-- a variable: the short name by which the lines tell it, the word by which it is declared, and whether it is set in a sight
pub record Variable : Type 0 where
  pub name : List ℕ
  pub word : List ℕ
  pub value : Sight → Bool

-- ---- one list behind the other

-- those of the numbers below n, upward
unfoldable pub each : {A : Type 0} → ℕ → (ℕ → List A) → List A
each zero f = []
each (suc n) f = each n f ++ f n

-- "the highest first"
unfoldable pub down_from : {A : Type 0} → ℕ → (ℕ → List A) → List A
down_from zero f = []
down_from (suc k) f = f k ++ down_from k f

-- ---- names

-- "with their own number": `l0`, `level0`
abbrev pub numbered : List ℕ → ℕ → List ℕ
numbered letter n = letter ++ decimal n

-- of a seat's number, bit by bit: `L27`, `lsr2[7]`
abbrev pub bit_name : List ℕ → ℕ → ℕ → List ℕ
bit_name letter n k = numbered letter n ++ decimal k

abbrev pub bit_word : List ℕ → ℕ → ℕ → List ℕ
bit_word word n k = numbered word n ++ (quoted "[" ++ (decimal k ++ quoted "]"))

-- ---- the variables

-- "$var wire 1 o output $end"
abbrev pub output_variable : Variable
output_variable = record { name = quoted "o"; word = quoted "output"; value = λ s. s.output }

-- whether line n is in a set
abbrev pub of_set : List ℕ → List ℕ → (Sight → ℕ) → ℕ → Variable
of_set letter word set n = record { name = numbered letter n; word = numbered word n; value = λ s. bit n (set s) }

-- "$var wire 1 l0 level0 $end", "$var wire 1 r0 request0 $end", "$var wire 1 s0 service0 $end", "$var wire 1 m0 mask0 $end", "and so the other
-- lines"
unfoldable pub line_variables : ℕ → List Variable
line_variables n =
    of_set (quoted "l") (quoted "level") (λ s. s.levels) n
    ∷ of_set (quoted "r") (quoted "request") (λ s. s.requests) n
    ∷ of_set (quoted "s") (quoted "service") (λ s. s.service) n
    ∷ of_set (quoted "m") (quoted "mask") (λ s. s.mask) n
    ∷ []

-- "$var wire 1 L27 lsr2[7] $end .. and so bits 6 to 1": a number of seat n, of so many bits
abbrev pub of_number : List ℕ → List ℕ → (Sight → ℕ) → ℕ → ℕ → List Variable
of_number letter word number n width =
    down_from width (λ k. record { name = bit_name letter n k; word = bit_word word n k; value = λ s. bit k (number s) } ∷ [])

-- "the LSR and the number queued, bit by bit"
unfoldable pub of_seat : ℕ → List Variable
of_seat n =
    of_number (quoted "L") (quoted "lsr") (λ s. (look_at s n).lsr) n 8
    ++ of_number (quoted "q") (quoted "queued") (λ s. (look_at s n).queued) n 5

-- "for each seat in use": the seats in use are a set, seat n its bit n
unfoldable pub seat_variables : ℕ → ℕ → List Variable
seat_variables used n = pick (bit n used) (of_seat n) []

-- the scopes in which they stand: one for each line, then one for each seat
abbrev pub scope_count : ℕ
scope_count = 16

unfoldable pub scope_variables : ℕ → ℕ → List Variable
scope_variables used k = pick (ltb k 8) (line_variables k) (seat_variables used (k - 8))

-- the output, and then those of every scope
unfoldable pub variables : ℕ → List Variable
variables used = output_variable ∷ each scope_count (scope_variables used)
