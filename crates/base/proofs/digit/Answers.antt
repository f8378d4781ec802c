use Rattle.base.specs.PickLaws.{tests}
use Rattle.base.specs.Bits.{digit}
use Rattle.base.proofs.digit.Goals as goal

pub returns-then-b : goal.returns-then-b
unfolding digit
returns-then-b c = search tests

pub returns-else-b : goal.returns-else-b
unfolding digit
returns-else-b c = search tests
