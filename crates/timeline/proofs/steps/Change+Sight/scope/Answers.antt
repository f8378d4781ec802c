use Rattle.timeline.specs.Variables.{scope_variables}
use Rattle.base.specs.PickLaws.{pick_true, pick_false}
use borrow.Author.Tests.{le-ltb, lt-ltb}
use Rattle.timeline.proofs.steps.Change+Sight.scope.Goals as goal

pub returns-then-k-lt-LINES : goal.returns-then-k-lt-LINES
unfolding scope_variables
returns-then-k-lt-LINES c = simp (lt-ltb _ _ c.if-k-lt-LINES.true, pick_true) c.line.ensures

pub returns : goal.returns
unfolding scope_variables
returns c = simp (le-ltb _ _ c.if-k-lt-LINES.false, pick_false) c.seat.ensures
