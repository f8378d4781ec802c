use Rattle.channel.specs.Status.{lsr}
use Rattle.sight.specs.Sights.{look_of}
use Rattle.sight.proofs.seen.Goals as goal

pub returns : goal.returns
unfolding look_of lsr
returns c = simp (← c.lsr.ensures, ← c.is_fifo-fifo.ensures)
