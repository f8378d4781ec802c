use Rattle.channel_image.specs.Allowed.{registers_in_range}
use Rattle.channel_image.proofs.tests.registers_in_range.Goals as goal

pub returns : goal.returns
unfolding registers_in_range
returns c = simp (← c.fcr_kept.ensures)
