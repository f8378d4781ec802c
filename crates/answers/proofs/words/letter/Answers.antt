use Rattle.page.specs.PieceLaws.{with_append, with_none}
use Rattle.page.specs.Pieces.{with}
use Rattle.answers.specs.Came.{letter_came}
use Rattle.answers.proofs.words.letter.Goals as goal

pub returns : goal.returns
unfolding with letter_came
returns c = simp (c.figures.ensures, c.letter-read.ensures, c.text.ensures, c.empty.ensures, with_append, with_none)
