use Rattle.base.specs.PickLaws.{pick_true, pick_false}
use Rattle.page.specs.PieceLaws.{with_append, with_none}
use Rattle.page.specs.Pieces.{with}
use Rattle.controller_page.proofs.either.Goals as goal

pub returns-then-test : goal.returns-then-test
unfolding with
returns-then-test c = simp (c.text.ensures, c.empty-none.ensures, c.if-test.true, pick_true, with_append, with_none)

pub returns : goal.returns
unfolding with
returns c = simp (c.text-2.ensures, c.empty-none.ensures, c.if-test.false, pick_false, with_append, with_none)
