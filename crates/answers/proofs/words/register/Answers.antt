use Rattle.base.specs.PickLaws.{pick_true, pick_false}
use borrow.Author.Tests.{ne_eqb}
use Rattle.answers.specs.Came.{register_came}
use Rattle.answers.proofs.words.register.Goals as goal

pub returns-in-2 : goal.returns-in-2
unfolding register_came
returns-in-2 c = simp (c.iir.ensures, c.in-2.is, pick_true, pick_false)

pub returns-in-5 : goal.returns-in-5
unfolding register_came
returns-in-5 c = simp (c.lsr.ensures, c.in-5.is, pick_true, pick_false)

pub returns-in-6 : goal.returns-in-6
unfolding register_came
returns-in-6 c = simp (c.msr.ensures, c.in-6.is, pick_true, pick_false)

pub returns-in_default : goal.returns-in_default
unfolding register_came
returns-in_default c = simp (c.plain.ensures, ne_eqb _ _ c.in_default.in_default-own.rest.1, ne_eqb _ _ c.in_default.in_default-own.rest.0.1, ne_eqb _ _ c.in_default.in_default-own.rest.0.0.1, pick_false)
