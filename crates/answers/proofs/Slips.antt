-- A closed instance of a law, false under the slip of must-fail/.
use mathlib.Core.Path.{◌≡◌, refl}
use lib.ListN.{length}
use Rattle.text.specs.Line.{capital}
use Rattle.base.specs.Pick.{pick}
use Rattle.page.specs.Pieces.{hex}
use Rattle.answers.specs.Came.{spurious_came}

-- `spurious` of `Examples`: nobody asked, and no line is named; by how long it is
spurious_names_no_line : length (spurious_came 0x47) ≡ 19
unfolding pick capital hex spurious_came
spurious_names_no_line = refl
