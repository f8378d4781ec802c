use Rattle.base.specs.PickLaws.{pick_true, pick_false}
use borrow.Author.Tests.{eq-eqb, ne_eqb}
use Rattle.page.specs.PieceLaws.{with_append, with_none}
use Rattle.page.specs.Pieces.{with}
use Rattle.moves.specs.Moved.{counted}
use Rattle.moves.proofs.changes.counted.Goals as goal

pub returns-then-before-after : goal.returns-then-before-after
unfolding counted
returns-then-before-after c = simp (c.empty.ensures, eq-eqb _ _ c.if-before-after.true, pick_true, with_append, with_none)

pub returns : goal.returns
unfolding with counted
returns c = simp (c.decimal.ensures, c.text.ensures, c.empty-2.ensures, ne_eqb _ _ c.if-before-after.false, pick_false, with_append, with_none)
