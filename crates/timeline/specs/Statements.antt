-- The statements of this room. The proofs give the record whole.
use Rattle.timeline.specs.Told.{ShownLast, NamesApart, NothingChanged, NothingCut}
use Rattle.timeline.specs.Examples.{Examples}

pub record Statements : Type 0 where
  pub shown_last : ShownLast
  pub names_apart : NamesApart
  pub nothing_changed : NothingChanged
  pub nothing_cut : NothingCut
  pub examples : Examples
