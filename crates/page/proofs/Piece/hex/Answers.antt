use Rattle.page.specs.Pieces.{with, hex}
use Rattle.page.proofs.Piece.hex.Goals as goal

pub returns : goal.returns
unfolding with hex
returns c = simp (← c.byte.ensures, ← c.capital-2.ensures, ← c.byte-front.ensures, ← c.capital.ensures)
