use Rattle.base.specs.PickLaws.{tests}
use Rattle.image.specs.Read.{controller_from}
use Rattle.image.proofs.reading.controller_from.Goals as goal

pub returns : goal.returns
unfolding controller_from
returns c = search tests
