-- The statements of this room. The proofs give the record whole.
use Rattle.deeds.specs.Uncut.{NoneCut}
use Rattle.deeds.specs.Examples.{Examples}

pub record Statements : Type 0 where
  pub examples : Examples
  pub none_cut : NoneCut
