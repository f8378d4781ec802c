use Rattle.base.specs.PickLaws.{tests}
use Rattle.channel_image.specs.Allowed.{flags_in_range}
use Rattle.channel_image.proofs.tests.flags_in_range.Goals as goal

pub returns : goal.returns
unfolding flags_in_range
returns c = search tests
