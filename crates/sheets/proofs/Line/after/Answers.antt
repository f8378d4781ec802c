use Rattle.base.specs.PickLaws.{pick_true, pick_false}
use borrow.Author.Tests.{le-ltb, lt-ltb}
use Rattle.sheets.specs.Kept.{line_after}
use Rattle.sheets.proofs.Line.after.Goals as goal

pub returns-then-self-lt-KEPT : goal.returns-then-self-lt-KEPT
unfolding line_after
returns-then-self-lt-KEPT c = simp (lt-ltb _ _ c.if-self-lt-KEPT.true, pick_true)

pub returns-else-self-lt-KEPT : goal.returns-else-self-lt-KEPT
unfolding line_after
returns-else-self-lt-KEPT c = simp (le-ltb _ _ c.if-self-lt-KEPT.false, pick_false)
