use Rattle.base.specs.PickLaws.{pick_true, pick_false}
use Rattle.sheets.specs.Numbers.{clock_in}
use Rattle.sheets.proofs.Numbers.clock.Goals as goal

pub returns-then-self : goal.returns-then-self
unfolding clock_in
returns-then-self c = simp (← c.byte.ensures, c.if-self.true, pick_true)

pub returns : goal.returns
unfolding clock_in
returns c = simp (c.if-self.false, pick_false)
