use Rattle.channel_image.specs.Read.{channel_from}
use Rattle.channel_image.proofs.reading.channel_from.Goals as goal

pub returns : goal.returns
unfolding channel_from
returns c = simp (← c.transmitter_from.ensures, ← c.receiver_from.ensures)
