-- What a viewer reads in a value change dump (IEEE 1364), line by line: variables of one bit. It watches one of them, and shows the value
-- that was told last.
use Rattle.std.specs.Prelude.{ℕ, ◌+◌, ◌-◌, ◌*◌, ◌||◌, List, [], ◌∷◌, ◌++◌, eqb}
use Rattle.base.specs.Pick.{pick}
use Rattle.text.specs.Line.{newline, numeral}
use Rattle.page.specs.Through.{through}

-- what it has read of a line, and the value that it shows
pub record Viewer : Type 0 where
  pub line : List ℕ
  pub value : ℕ

-- between two lines
abbrev pub ready : ℕ → Viewer
ready value = record { line = []; value = value }

-- ---- a line

-- whose value a line tells: one bit, and the name behind it. Another line, as `#5`, tells nobody's
unfoldable pub name_in : List ℕ → List ℕ
name_in [] = []
name_in (c ∷ rest) = pick (eqb c (numeral 0) || eqb c (numeral 1)) rest []

unfoldable pub value_in : List ℕ → ℕ
value_in [] = 0
value_in (c ∷ rest) = c - numeral 0

-- ---- byte by byte

-- a name as one number, with its bytes as the digits: so it is told from others
unfoldable pub key : List ℕ → ℕ
key name = through (λ n c. 256 * n + c) 0 name

-- at the end of a line
unfoldable pub value_behind : List ℕ → ℕ → List ℕ → ℕ
value_behind name value line = pick (eqb (key (name_in line)) (key name)) (value_in line) value

unfoldable pub viewed : List ℕ → Viewer → ℕ → Viewer
viewed name v c =
    pick (eqb c newline) (ready (value_behind name v.value v.line)) (record { line = v.line ++ (c ∷ []); value = v.value })

-- what it shows of the variable of this name behind a text, if it showed `before` at the beginning
unfoldable pub shown_behind : List ℕ → ℕ → List ℕ → ℕ
shown_behind name before text = (through (viewed name) (ready before) text).value
