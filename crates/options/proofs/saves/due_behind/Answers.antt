use Rattle.base.specs.PickLaws.{pick_true, pick_false}
use borrow.Author.Tests.{eq-eqb, ne_eqb}
use Rattle.options.proofs.saves.due_behind.Goals as goal

pub returns-in-Behind : goal.returns-in-Behind
returns-in-Behind c = simp (c.in-Behind.is, eq-eqb _ _ c.if-count-n.true, pick_true)

pub returns-in_default : goal.returns-in_default
returns-in_default c = simp (c.in-Behind.is, ne_eqb _ _ c.if-count-n.false, pick_false)
