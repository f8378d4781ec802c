-- A closed instance of a law, false under the slip of must-fail/.
use mathlib.Core.Path.{◌≡◌, refl}
use lib.ListN.{length}
use Rattle.base.specs.Pick.{pick}
use Rattle.text.specs.Quoted.{quoted}
use Rattle.text.specs.Line.{digits_within, decimal}
use Rattle.moves.specs.Moved.{counted}

-- `StaysUntold`
what_stays_is_not_told : length (counted (quoted "queued ") 1 1) ≡ 0
unfolding pick digits_within decimal counted
what_stays_is_not_told = refl
