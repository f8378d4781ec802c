use native.Mathlib.Omega.{arith}
use Rattle.base.specs.PickLaws.{pick_true, pick_false}
use Rattle.page.specs.Pages.{separation}
use Rattle.page.proofs.Page.between.Goals as goal

pub returns-then-self : goal.returns-then-self
unfolding separation
returns-then-self c = (rw (c.if-self.true, pick_true), omega arith)

pub returns : goal.returns
unfolding separation
returns c = (rw (c.if-self.false, pick_false), omega arith)
