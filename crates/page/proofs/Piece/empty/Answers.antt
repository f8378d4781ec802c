use Rattle.base.specs.PickLaws.{tests}
use Rattle.page.specs.Pieces.{no_piece}
use Rattle.page.proofs.Piece.empty.Goals as goal

pub returns : goal.returns
unfolding no_piece
returns c = search tests
