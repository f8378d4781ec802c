-- Lines and columns, by how the text was written.
use Rattle.std.specs.Prelude.{ℕ, suc, ◌+◌, List, [], ◌∷◌, ◌++◌, Bool, true, false, ◌≡◌, refl, eqb, length}
use Rattle.std.proofs.Common.{sym, ◌∙◌, arith, add-zero, ne_eqb}
use Rattle.base.specs.Pick.{pick}
use Rattle.base.specs.PickLaws.{pick_false}
use Rattle.lesson.specs.Text.{line_feed}
use Rattle.lesson.specs.Place.{first, onward, place_from, place_behind}
use Rattle.lesson.specs.Plain.{OneLine, feeds}
use Rattle.lesson.specs.declared.places.Place.{Place}

from_parts : (p : Place) (a b : List ℕ) → place_from p (a ++ b) ≡ place_from (place_from p a) b
unfolding place_from
from_parts p [] b = refl
from_parts p (c ∷ a) b = from_parts (onward p c) a b

feed_onward : (p : Place) → onward p line_feed ≡ record { line = p.line + 1; column = 1 }
unfolding onward pick
feed_onward p = refl

other_onward : (p : Place) (c : ℕ) → (c ≡ line_feed → ⊥) → onward p c ≡ record { line = p.line; column = p.column + 1 }
unfolding onward
other_onward p c other = pick_false _ _ _ (ne_eqb c line_feed other)

-- along a line the column rises
along : (line column : ℕ) (l : List ℕ) → OneLine l
    → place_from (record { line = line; column = column }) l ≡ record { line = line; column = column + length l }
unfolding place_from
along line column [] all = rw (add-zero column)
along line column (c ∷ l) all =
    let on : column + 1 + length l ≡ column + suc (length l) = omega arith in
    rw (other_onward (record { line = line; column = column }) c all.0, along line (column + 1) l all.1, on)

onward_line : (y : Bool) (line column n : ℕ)
    → (pick {A = Place} y (record { line = line + 1; column = 1 }) (record { line = line; column = column + 1 })).line + n ≡ line + pick y (suc n) n
unfolding pick
onward_line true line column n = omega arith
onward_line false line column n = refl

lines_from : (p : Place) (l : List ℕ) → (place_from p l).line ≡ p.line + feeds l
unfolding place_from feeds onward
lines_from p [] = sym (add-zero p.line)
lines_from p (c ∷ l) = lines_from (onward p c) l ∙ onward_line (eqb c line_feed) p.line p.column (feeds l)

-- the line is one more than the line feeds before it
pub line_counts : (text : List ℕ) → (place_behind text).line ≡ 1 + feeds text
unfolding place_behind
line_counts text = lines_from first text

-- on the first line, the column is one more than the characters before it
pub first_line_lem : (l : List ℕ) → OneLine l → place_behind l ≡ record { line = 1; column = 1 + length l }
unfolding place_behind
first_line_lem l all = along 1 1 l all

-- and behind a line feed, one more than those since
pub later_line : (a l : List ℕ) → OneLine l
    → place_behind (a ++ (line_feed ∷ l)) ≡ record { line = 2 + feeds a; column = 1 + length l }
unfolding place_behind place_from
later_line a l all =
    let line : (place_from first a).line + 1 ≡ 2 + feeds a = omega (arith, lines_from first a) in
    from_parts first a (line_feed ∷ l) ∙ rw (feed_onward (place_from first a), along ((place_from first a).line + 1) 1 l all, line)
