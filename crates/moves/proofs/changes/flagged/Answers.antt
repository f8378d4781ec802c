use Rattle.base.specs.PickLaws.{pick_true, pick_false}
use Rattle.page.specs.PieceLaws.{with_append, with_none}
use Rattle.moves.specs.Moved.{turned}
use Rattle.moves.proofs.changes.flagged.Goals as goal

pub returns-in-true-false : goal.returns-in-true-false
unfolding turned
returns-in-true-false c = simp (c.text.ensures, c.empty-none.ensures, c.in-true-false.is-0, c.in-true-false.is-1, pick_true, pick_false, with_append, with_none)

pub returns-in-false-true : goal.returns-in-false-true
unfolding turned
returns-in-false-true c = simp (c.text-in-false-true.ensures, c.empty-none.ensures, c.in-false-true.is-0, c.in-false-true.is-1, pick_true, pick_false, with_append, with_none)

pub returns-in_default : goal.returns-in_default
unfolding turned
returns-in_default c = simp (c.empty-none.ensures, c.in_default.is-0, c.in_default.is-1, pick_true, pick_false, with_append, with_none)

pub returns-in_default-2 : goal.returns-in_default-2
unfolding turned
returns-in_default-2 c = simp (c.empty-none.ensures, c.in_default.is-0, c.in_default.is-1, pick_true, pick_false, with_append, with_none)
