use Rattle.base.specs.PickLaws.{pick_true, pick_false}
use borrow.Author.Tests.{eq-eqb, ne_eqb}
use Rattle.page.specs.PieceLaws.{with_append, with_none}
use Rattle.moves.specs.Moved.{first_moved}
use Rattle.moves.proofs.signals.first_piece.Goals as goal

pub returns-then-before-after : goal.returns-then-before-after
unfolding first_moved
returns-then-before-after c = simp (c.empty.ensures, eq-eqb _ _ c.if-before-after.true, pick_true, with_append, with_none)

pub returns : goal.returns
unfolding first_moved
returns c = simp (c.named.ensures, ne_eqb _ _ c.if-before-after.false, pick_false)
