use Rattle.base.specs.PickLaws.{pick_true, pick_false}
use borrow.Author.Tests.{ne_eqb}
use Rattle.names.specs.Words.{name_at_divisor}
use Rattle.names.proofs.registers.divisor_named.Goals as goal

pub returns-in-0 : goal.returns-in-0
unfolding name_at_divisor
returns-in-0 c = simp (c.text.ensures, c.in-0.is, pick_true, pick_false)

pub returns-in-1 : goal.returns-in-1
unfolding name_at_divisor
returns-in-1 c = simp (c.text-in-1.ensures, c.in-1.is, pick_true, pick_false)

pub returns-in_default : goal.returns-in_default
unfolding name_at_divisor
returns-in_default c = simp (c.named.ensures, ne_eqb _ _ c.in_default.in_default-own.rest.1, ne_eqb _ _ c.in_default.in_default-own.rest.0.1, pick_false)
