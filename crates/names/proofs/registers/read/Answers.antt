use Rattle.base.specs.PickLaws.{pick_true, pick_false}
use borrow.Author.Tests.{ne_eqb}
use Rattle.page.specs.PieceLaws.{with_append, with_none}
use Rattle.names.specs.Words.{name_read}
use Rattle.names.proofs.registers.read.Goals as goal

pub returns-in-0 : goal.returns-in-0
unfolding name_read
returns-in-0 c = simp (c.text.ensures, c.in-0.is, pick_true, pick_false)

pub returns-in-1 : goal.returns-in-1
unfolding name_read
returns-in-1 c = simp (c.text-in-1.ensures, c.in-1.is, pick_true, pick_false)

pub returns-in-2 : goal.returns-in-2
unfolding name_read
returns-in-2 c = simp (c.text-in-2.ensures, c.in-2.is, pick_true, pick_false)

pub returns-in-3 : goal.returns-in-3
unfolding name_read
returns-in-3 c = simp (c.text-in-3.ensures, c.in-3.is, pick_true, pick_false)

pub returns-in-4 : goal.returns-in-4
unfolding name_read
returns-in-4 c = simp (c.text-in-4.ensures, c.in-4.is, pick_true, pick_false)

pub returns-in-5 : goal.returns-in-5
unfolding name_read
returns-in-5 c = simp (c.text-in-5.ensures, c.in-5.is, pick_true, pick_false)

pub returns-in-6 : goal.returns-in-6
unfolding name_read
returns-in-6 c = simp (c.text-in-6.ensures, c.in-6.is, pick_true, pick_false)

pub returns-in-7 : goal.returns-in-7
unfolding name_read
returns-in-7 c = simp (c.text-in-7.ensures, c.in-7.is, pick_true, pick_false)

pub returns-in_default : goal.returns-in_default
unfolding name_read
returns-in_default c = simp (ne_eqb _ _ c.in_default.in_default-own.rest.1, ne_eqb _ _ c.in_default.in_default-own.rest.0.1, ne_eqb _ _ c.in_default.in_default-own.rest.0.0.1, ne_eqb _ _ c.in_default.in_default-own.rest.0.0.0.1, ne_eqb _ _ c.in_default.in_default-own.rest.0.0.0.0.1, ne_eqb _ _ c.in_default.in_default-own.rest.0.0.0.0.0.1, ne_eqb _ _ c.in_default.in_default-own.rest.0.0.0.0.0.0.1, ne_eqb _ _ c.in_default.in_default-own.rest.0.0.0.0.0.0.0.1, pick_false, with_append, with_none)
