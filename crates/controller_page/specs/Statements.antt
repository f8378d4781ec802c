-- The statements of this room. The proofs give the record whole.
use Rattle.controller_page.specs.Uncut.{NoneCut, Whole, OnTerminal}
use Rattle.controller_page.specs.Examples.{Examples}

pub record Statements : Type 0 where
  pub none_cut : NoneCut
  pub whole : Whole
  pub on_terminal : OnTerminal
  pub examples : Examples
