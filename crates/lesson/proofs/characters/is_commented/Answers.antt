use Rattle.base.specs.PickLaws.{tests}
use Rattle.lesson.specs.Text.{commented}
use Rattle.lesson.proofs.characters.is_commented.Goals as goal

pub returns-in-35 : goal.returns-in-35
unfolding commented
returns-in-35 c = search tests

pub returns-in-10 : goal.returns-in-10
unfolding commented
returns-in-10 c = search tests

pub returns-in_default : goal.returns-in_default
unfolding commented
returns-in_default c = search tests
