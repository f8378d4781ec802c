-- The statements of this room. The proofs give the record whole.
use Rattle.account.specs.Kept.{NoneCut, KeepsWidth, EndsLine, ListingFirst, RefusedMovesNothing}
use Rattle.account.specs.Examples.{WorkedExample, Ingredients, Commented}

pub record Statements : Type 0 where
  pub worked_example : WorkedExample
  pub ingredients : Ingredients
  pub commented : Commented
  pub none_cut : NoneCut
  pub keeps_width : KeepsWidth
  pub ends_line : EndsLine
  pub listing_first : ListingFirst
  pub refused_moves_nothing : RefusedMovesNothing
