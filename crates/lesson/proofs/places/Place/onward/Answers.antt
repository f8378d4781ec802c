use Rattle.base.specs.PickLaws.{tests}
use Rattle.lesson.specs.Place.{onward}
use Rattle.lesson.proofs.places.Place.onward.Goals as goal

pub returns-then-c-eq10 : goal.returns-then-c-eq10
unfolding onward
returns-then-c-eq10 c = search tests

pub returns : goal.returns
unfolding onward
returns c = search tests
