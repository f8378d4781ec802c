use Rattle.base.specs.PickLaws.{tests}
use Rattle.sheets.specs.Numbers.{base}
use Rattle.sheets.proofs.four.base.Goals as goal

pub returns-then-place-eq-LCR : goal.returns-then-place-eq-LCR
unfolding base
returns-then-place-eq-LCR c = search tests

pub returns : goal.returns
unfolding base
returns c = search tests
