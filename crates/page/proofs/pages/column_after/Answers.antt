use Rattle.base.specs.PickLaws.{pick_true, pick_false}
use borrow.Author.Tests.{eq-eqb, le-leb, le-ltb, lt-leb, lt-ltb, ne_eqb}
use Rattle.page.specs.Pages.{column_after}
use Rattle.page.proofs.pages.column_after.Goals as goal

pub returns-then-c-eq10 : goal.returns-then-c-eq10
unfolding column_after
returns-then-c-eq10 c = simp (eq-eqb _ _ c.if-c-eq10.true, pick_true)

pub returns-then-column-lt-MOST : goal.returns-then-column-lt-MOST
unfolding column_after
returns-then-column-lt-MOST c = simp (lt-ltb _ _ c.if-column-lt-MOST.true, lt-leb _ _ c.if-column-lt-MOST.true, ne_eqb _ _ c.if-c-eq10.false, pick_true, pick_false)

pub returns : goal.returns
unfolding column_after
returns c = simp (le-ltb _ _ c.if-column-lt-MOST.false, le-leb _ _ c.if-column-lt-MOST.false, ne_eqb _ _ c.if-c-eq10.false, pick_true, pick_false)
