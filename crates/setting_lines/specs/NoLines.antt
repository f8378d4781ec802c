-- Ticket 1: texts that are no settings lines, whatever else they are.
use Rattle.std.specs.Prelude.{ℕ, ◌<◌, Bool, true, false, ◌&&◌, ◌||◌, List, [], ◌∷◌, ◌≡◌, eqb, leb, length}
use Rattle.text.specs.Line.{numeral}
use Rattle.setting_lines.specs.Fields.{N, O, E, M, S, letter, comma, point}
use Rattle.setting_lines.specs.Reading.{NoLine}

-- digits, the point, commas and the five capitals
abbrev pub of_line : ℕ → Bool
of_line c = (leb (numeral 0) c && leb c (numeral 9)) || (eqb c point || (eqb c comma || (eqb c (letter N) || (eqb c (letter O) || (eqb c (letter E) || (eqb c (letter M) || eqb c (letter S)))))))

abbrev pub all_of_line : List ℕ → Bool
all_of_line [] = true
all_of_line (c ∷ l) = of_line c && all_of_line l

pub record NoLines : Type 0 where
  -- ticket 1: "without leading zeros"
  pub leading : (l : List ℕ) → NoLine (numeral 0 ∷ l)
  -- with a blank, a carriage return, a line end, a sign, a small letter or any other character that no line has
  pub character : (line : List ℕ) → all_of_line line ≡ false → NoLine line
  -- with more than 13 bytes
  pub longer : (line : List ℕ) → 13 < length line → NoLine line
