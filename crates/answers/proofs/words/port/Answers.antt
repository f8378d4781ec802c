use Rattle.page.specs.PieceLaws.{with_append, with_none}
use Rattle.page.specs.Pieces.{with}
use Rattle.answers.specs.Came.{port_came}
use Rattle.answers.proofs.words.port.Goals as goal

pub returns : goal.returns
unfolding with port_came
returns c = simp (c.lines.ensures, c.text.ensures, c.hex.ensures, c.port_name-name.ensures, c.empty.ensures, with_append, with_none)
