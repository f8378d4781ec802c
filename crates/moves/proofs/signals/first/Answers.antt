use Rattle.page.specs.PageLaws.{joined_piece}
use Rattle.moves.specs.Moved.{first_moved}
use Rattle.moves.proofs.signals.first.Goals as goal

pub returns : goal.returns
unfolding first_moved
returns c = simp (c.join.ensures, c.first_piece.ensures, joined_piece)
