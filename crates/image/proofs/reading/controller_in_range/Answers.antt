use Rattle.base.specs.PickLaws.{tests}
use Rattle.image.specs.Refusals.{controller_in_range}
use Rattle.image.proofs.reading.controller_in_range.Goals as goal

pub returns : goal.returns
unfolding controller_in_range
returns c = search tests
