use Rattle.base.specs.PickLaws.{pick_true, pick_false}
use Rattle.page.specs.Pages.{put, separation}
use Rattle.page.proofs.Page.separated.Goals as goal

pub returns-then-self : goal.returns-then-self
unfolding put separation
returns-then-self c = simp (c.if-self.true, pick_true)

pub returns : goal.returns
unfolding put separation
returns c = simp (← c.text.ensures, c.if-self.false, pick_false)
