use Rattle.base.specs.PickLaws.{pick_true, pick_false}
use borrow.Author.Tests.{ne_eqb}
use Rattle.names.specs.Words.{name_written}
use Rattle.names.proofs.registers.written.Goals as goal

pub returns-in-0 : goal.returns-in-0
unfolding name_written
returns-in-0 c = simp (c.text.ensures, c.in-0.is, pick_true, pick_false)

pub returns-in-2 : goal.returns-in-2
unfolding name_written
returns-in-2 c = simp (c.text-in-2.ensures, c.in-2.is, pick_true, pick_false)

pub returns-in_default : goal.returns-in_default
unfolding name_written
returns-in_default c = simp (c.read.ensures, ne_eqb _ _ c.in_default.in_default-own.rest.1, ne_eqb _ _ c.in_default.in_default-own.rest.0.1, pick_false)
