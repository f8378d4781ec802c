-- Lines and columns of a text.
use Rattle.std.specs.Prelude.{ℕ, ◌+◌, List, [], ◌∷◌, eqb}
use Rattle.base.specs.Pick.{pick}
use Rattle.lesson.specs.Text.{line_feed}
use Rattle.lesson.specs.declared.places.Place.{Place}

-- line and column count from 1
abbrev pub first : Place
first = record { line = 1; column = 1 }

-- the next place: a line ends after a line feed
unfoldable pub onward : Place → ℕ → Place
onward p c = pick (eqb c line_feed) (record { line = p.line + 1; column = 1 }) (record { line = p.line; column = p.column + 1 })

unfoldable pub place_from : Place → List ℕ → Place
place_from p [] = p
place_from p (c ∷ rest) = place_from (onward p c) rest

-- the place right behind a text
unfoldable pub place_behind : List ℕ → Place
place_behind text = place_from first text
