use Rattle.page.specs.PieceLaws.{with_append, with_none}
use Rattle.page.specs.Pieces.{with}
use Rattle.answers.specs.Came.{plain_came}
use Rattle.answers.proofs.words.plain.Goals as goal

pub returns : goal.returns
unfolding with plain_came
returns c = simp (c.hex.ensures, c.text.ensures, c.register-name.ensures, c.empty.ensures, with_append, with_none)
