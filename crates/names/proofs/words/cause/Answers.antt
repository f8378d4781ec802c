use Rattle.base.specs.PickLaws.{pick_true, pick_false}
use borrow.Author.Tests.{ne_eqb}
use Rattle.names.specs.Words.{cause_said}
use Rattle.names.proofs.words.cause.Goals as goal

pub returns-in-6 : goal.returns-in-6
unfolding cause_said
returns-in-6 c = simp (c.text.ensures, c.in-6.is, pick_true, pick_false)

pub returns-in-4 : goal.returns-in-4
unfolding cause_said
returns-in-4 c = simp (c.text-in-4.ensures, c.in-4.is, pick_true, pick_false)

pub returns-in-12 : goal.returns-in-12
unfolding cause_said
returns-in-12 c = simp (c.text-in-12.ensures, c.in-12.is, pick_true, pick_false)

pub returns-in-2 : goal.returns-in-2
unfolding cause_said
returns-in-2 c = simp (c.text-in-2.ensures, c.in-2.is, pick_true, pick_false)

pub returns-in-0 : goal.returns-in-0
unfolding cause_said
returns-in-0 c = simp (c.text-in-0.ensures, c.in-0.is, pick_true, pick_false)

pub returns-in_default : goal.returns-in_default
unfolding cause_said
returns-in_default c = simp (c.text-in_default.ensures, ne_eqb _ _ c.in_default.in_default-own.rest.1, ne_eqb _ _ c.in_default.in_default-own.rest.0.1, ne_eqb _ _ c.in_default.in_default-own.rest.0.0.1, ne_eqb _ _ c.in_default.in_default-own.rest.0.0.0.1, ne_eqb _ _ c.in_default.in_default-own.rest.0.0.0.0.1, pick_false)
