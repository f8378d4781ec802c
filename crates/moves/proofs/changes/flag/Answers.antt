use Rattle.page.specs.PageLaws.{joined_piece}
use Rattle.moves.specs.Moved.{turned}
use Rattle.moves.proofs.changes.flag.Goals as goal

pub returns : goal.returns
unfolding turned
returns c = simp (c.join.ensures, c.flagged.ensures, joined_piece)
