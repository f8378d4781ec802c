use Rattle.page.specs.PieceLaws.{with_append, with_none}
use Rattle.page.specs.Pieces.{with}
use Rattle.moves.specs.Moved.{line_words}
use Rattle.moves.proofs.signals.named.Goals as goal

pub returns : goal.returns
unfolding with line_words
returns c = simp (c.text-2.ensures, c.decimal.ensures, c.text.ensures, c.empty.ensures, with_append, with_none)
