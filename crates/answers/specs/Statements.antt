-- The statements of this room. The proofs give the record whole.
use Rattle.answers.specs.Uncut.{NoneCut}
use Rattle.answers.specs.Examples.{Examples}

pub record Statements : Type 0 where
  pub examples : Examples
  pub none_cut : NoneCut
