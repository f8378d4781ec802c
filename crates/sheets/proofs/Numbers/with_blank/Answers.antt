use Rattle.base.specs.PickLaws.{pick_true, pick_false}
use Rattle.sheets.specs.Numbers.{with_blank}
use Rattle.sheets.proofs.Numbers.with_blank.Goals as goal

pub returns-then-self : goal.returns-then-self
unfolding with_blank
returns-then-self c = simp (c.if-self.true, pick_true)

pub returns : goal.returns
unfolding with_blank
returns c = simp (← c.spoilt.ensures, c.if-self.false, pick_false)
