use Rattle.base.specs.PickLaws.{pick_true, pick_false}
use borrow.Author.Tests.{le-leb, le-ltb, lt-leb, lt-ltb}
use Rattle.page.specs.Pages.{put_byte}
use Rattle.page.proofs.Page.byte.Goals as goal

pub returns-then-at-lt-MOST : goal.returns-then-at-lt-MOST
unfolding put_byte
returns-then-at-lt-MOST c = simp (← c.column_after.ensures, lt-ltb _ _ c.if-at-lt-MOST.true, lt-leb _ _ c.if-at-lt-MOST.true, pick_true, pick_false)

pub returns : goal.returns
unfolding put_byte
returns c = simp (le-ltb _ _ c.if-at-lt-MOST.false, le-leb _ _ c.if-at-lt-MOST.false, pick_true, pick_false)
