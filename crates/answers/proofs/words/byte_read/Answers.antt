use Rattle.base.specs.PickLaws.{pick_true, pick_false}
use borrow.Author.Tests.{eq-eqb, ne_eqb}
use Rattle.answers.specs.Came.{byte_came}
use Rattle.answers.proofs.words.byte_read.Goals as goal

pub returns-then-kind-eq-READ_CONTROLLER : goal.returns-then-kind-eq-READ_CONTROLLER
unfolding byte_came
returns-then-kind-eq-READ_CONTROLLER c = simp (c.port.ensures, eq-eqb _ _ c.if-kind-eq-READ_CONTROLLER.true, pick_true)

pub returns : goal.returns
unfolding byte_came
returns c = simp (c.register.ensures, ne_eqb _ _ c.if-kind-eq-READ_CONTROLLER.false, pick_false)
