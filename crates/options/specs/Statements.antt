-- The statements of this room. The proofs give the record whole.
use Rattle.options.specs.SaveMoments.{MomentsRead, MomentsOnly}
use Rattle.options.specs.WordsRead.{OptionsRead, NotUnderstood, TableFollowed}
use Rattle.options.specs.SavesMade.{MadeOnce, NonePassed}
use Rattle.options.specs.Examples.{Examples}

pub record Statements : Type 0 where
  pub moments_read : MomentsRead
  pub moments_only : MomentsOnly
  pub options_read : OptionsRead
  pub not_understood : NotUnderstood
  pub table_followed : TableFollowed
  pub made_once : MadeOnce
  pub none_passed : NonePassed
  pub examples : Examples
