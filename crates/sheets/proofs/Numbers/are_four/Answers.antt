use Rattle.base.specs.PickLaws.{tests}
use Rattle.sheets.specs.Numbers.{four}
use Rattle.sheets.proofs.Numbers.are_four.Goals as goal

pub returns : goal.returns
unfolding four
returns c = search tests
