-- The statements of this room. The proofs give the record whole.
use Rattle.names.specs.Uncut.{NoneCut}
use Rattle.names.specs.Differ.{RefusalsDiffer, BytesDiffer}
use Rattle.names.specs.Examples.{Examples}

pub record Statements : Type 0 where
  pub examples : Examples
  pub none_cut : NoneCut
  pub refusals_differ : RefusalsDiffer
  pub bytes_differ : BytesDiffer
