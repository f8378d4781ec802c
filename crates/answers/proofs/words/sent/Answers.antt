use Rattle.page.specs.PieceLaws.{with_append, with_none}
use Rattle.page.specs.Pieces.{with}
use Rattle.answers.specs.Came.{sent_came}
use Rattle.answers.proofs.words.sent.Goals as goal

pub returns : goal.returns
unfolding with sent_came
returns c = simp (c.letter.ensures, c.text.ensures, c.empty.ensures, with_append, with_none)
