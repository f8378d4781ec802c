use Rattle.base.specs.PickLaws.{pick_true, pick_false}
use borrow.Author.Tests.{le-leb, le-ltb, lt-leb, lt-ltb}
use Rattle.page.specs.Pages.{ended}
use Rattle.page.proofs.Page.end.Goals as goal

pub returns-then-self-lt-MOST : goal.returns-then-self-lt-MOST
unfolding ended
returns-then-self-lt-MOST c = simp (← c.byte.ensures, lt-ltb _ _ c.if-self-lt-MOST.true, lt-leb _ _ c.if-self-lt-MOST.true, pick_true, pick_false)

pub returns : goal.returns
unfolding ended
returns c = simp (le-ltb _ _ c.if-self-lt-MOST.false, le-leb _ _ c.if-self-lt-MOST.false, pick_true, pick_false)
