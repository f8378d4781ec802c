use Rattle.page.specs.PageLaws.{joined_piece}
use Rattle.moves.proofs.changes.latch.Goals as goal

pub returns : goal.returns
returns c = simp (c.join.ensures, c.latched.ensures, joined_piece, ← c.bit-2.ensures, ← c.bit.ensures)
