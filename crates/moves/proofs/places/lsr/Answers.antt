use Rattle.channel.specs.Status.{lsr}
use Rattle.moves.proofs.places.lsr.Goals as goal

pub returns : goal.returns
unfolding lsr
returns c = simp (← c.lsr.ensures, ← c.is_fifo.ensures)
