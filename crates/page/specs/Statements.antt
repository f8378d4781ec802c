-- The statements of this room. The proofs give the record whole.
use Rattle.page.specs.Columns.{FitsTerminal}
use Rattle.page.specs.Says.{SaysAll}
use Rattle.page.specs.Examples.{Examples}

pub record Statements : Type 0 where
  pub fits_terminal : FitsTerminal
  pub says_all : SaysAll
  pub examples : Examples
