use Rattle.base.specs.PickLaws.{pick_true, pick_false}
use borrow.Author.Tests.{eq-eqb, ne_eqb}
use Rattle.page.specs.PieceLaws.{with_append, with_none}
use Rattle.page.specs.Pieces.{with}
use Rattle.answers.specs.Came.{behind_said}
use Rattle.answers.proofs.words.behind.Goals as goal

pub returns-then-behind-eq0 : goal.returns-then-behind-eq0
unfolding behind_said
returns-then-behind-eq0 c = simp (eq-eqb _ _ c.if-behind-eq0.true, pick_true, with_append, with_none)

pub returns : goal.returns
unfolding with behind_said
returns c = simp (c.text-2.ensures, c.decimal.ensures, c.text.ensures, ne_eqb _ _ c.if-behind-eq0.false, pick_false, with_append, with_none)
