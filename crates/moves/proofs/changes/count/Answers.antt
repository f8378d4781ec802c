use Rattle.page.specs.PageLaws.{joined_piece}
use Rattle.moves.specs.Moved.{counted}
use Rattle.moves.proofs.changes.count.Goals as goal

pub returns : goal.returns
unfolding counted
returns c = simp (c.join.ensures, c.counted.ensures, joined_piece)
