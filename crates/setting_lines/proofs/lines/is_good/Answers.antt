use Rattle.base.specs.PickLaws.{tests}
use Rattle.setting_lines.specs.Guess.{good}
use Rattle.setting_lines.proofs.lines.is_good.Goals as goal

pub returns : goal.returns
unfolding good
returns c = search tests
