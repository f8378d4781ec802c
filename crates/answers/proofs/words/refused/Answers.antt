use Rattle.page.specs.PieceLaws.{with_append, with_none}
use Rattle.page.specs.Pieces.{with}
use Rattle.answers.specs.Came.{refused_came}
use Rattle.answers.proofs.words.refused.Goals as goal

pub returns : goal.returns
unfolding with refused_came
returns c = simp (c.refusal.ensures, c.text-2.ensures, c.decimal-head.ensures, c.text.ensures, c.empty.ensures, with_append, with_none)
