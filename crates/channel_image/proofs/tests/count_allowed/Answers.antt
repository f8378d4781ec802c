use Rattle.channel_image.specs.Allowed.{count_allowed}
use Rattle.channel_image.proofs.tests.count_allowed.Goals as goal

pub returns : goal.returns
unfolding count_allowed
returns c = simp (← c.bit.ensures)
