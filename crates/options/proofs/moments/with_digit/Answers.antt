use Rattle.base.specs.PickLaws.{tests}
use Rattle.options.specs.Moments.{with_digit}
use Rattle.options.proofs.moments.with_digit.Goals as goal

pub returns-then-n-lt-MANY : goal.returns-then-n-lt-MANY
unfolding with_digit
returns-then-n-lt-MANY c = search tests

pub returns : goal.returns
unfolding with_digit
returns c = search tests
