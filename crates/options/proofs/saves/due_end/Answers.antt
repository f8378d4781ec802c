use Rattle.base.specs.PickLaws.{pick_true, pick_false}
use borrow.Author.Tests.{le-leb, le-ltb, lt-leb, lt-ltb}
use Rattle.options.proofs.saves.due_end.Goals as goal

pub returns-in-Behind : goal.returns-in-Behind
returns-in-Behind c = simp (c.in-Behind.is, lt-ltb _ _ c.if-n-count.true, lt-leb _ _ c.if-n-count.true, pick_true, pick_false)

pub returns-in-Behind-2 : goal.returns-in-Behind-2
returns-in-Behind-2 c = simp (c.in-Behind.is, le-ltb _ _ c.if-n-count.false, le-leb _ _ c.if-n-count.false, pick_true, pick_false)
