use Rattle.page.specs.PieceLaws.{with_append, with_none}
use Rattle.page.specs.Pieces.{with}
use Rattle.answers.specs.Came.{spurious_came}
use Rattle.answers.proofs.words.spurious.Goals as goal

pub returns : goal.returns
unfolding with spurious_came
returns c = simp (c.text-2.ensures, c.hex-shown.ensures, c.text.ensures, c.empty.ensures, with_append, with_none)
