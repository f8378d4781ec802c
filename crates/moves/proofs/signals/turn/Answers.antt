use Rattle.page.specs.PageLaws.{joined_piece}
use Rattle.moves.specs.Moved.{line_turned}
use Rattle.moves.proofs.signals.turn.Goals as goal

pub returns : goal.returns
unfolding line_turned
returns c = simp (c.join.ensures, c.turned.ensures, joined_piece, ← c.bit-is.ensures, ← c.bit-was.ensures)
