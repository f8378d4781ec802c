-- The statements of this room. The proofs give the record whole.
use Rattle.moves.specs.Uncut.{NoneCut}
use Rattle.moves.specs.Untold.{StaysUntold}
use Rattle.moves.specs.Examples.{Examples}

pub record Statements : Type 0 where
  pub examples : Examples
  pub none_cut : NoneCut
  pub stays_untold : StaysUntold
