use Rattle.base.specs.PickLaws.{pick_true, pick_false}
use Rattle.page.specs.PieceLaws.{with_append, with_none}
use Rattle.answers.specs.Came.{figures_said}
use Rattle.answers.proofs.words.figures.Goals as goal

pub returns-then-empty : goal.returns-then-empty
unfolding figures_said
returns-then-empty c = simp (c.text.ensures, c.if-empty.true, pick_true)

pub returns : goal.returns
unfolding figures_said
returns c = simp (c.behind.ensures, c.marks.ensures, c.if-empty.false, pick_false, with_append, with_none)
