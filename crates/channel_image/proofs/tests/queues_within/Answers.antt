use Rattle.channel_image.specs.Allowed.{queues_within}
use Rattle.channel_image.proofs.tests.queues_within.Goals as goal

pub returns : goal.returns
unfolding queues_within
returns c = simp (← c.capacity-most.ensures, ← c.bit.ensures)
