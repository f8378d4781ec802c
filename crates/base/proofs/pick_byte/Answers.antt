use Rattle.base.specs.PickLaws.{pick_true, pick_false}
use Rattle.base.proofs.pick_byte.Goals as goal

pub returns-then-test : goal.returns-then-test
returns-then-test c = simp (c.if-test.true, pick_true)

pub returns-else-test : goal.returns-else-test
returns-else-test c = simp (c.if-test.false, pick_false)
