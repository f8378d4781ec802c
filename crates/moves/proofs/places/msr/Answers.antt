use Rattle.channel.specs.Status.{msr}
use Rattle.moves.proofs.places.msr.Goals as goal

pub returns : goal.returns
unfolding msr
returns c = simp (← c.modem_status.ensures, ← c.inputs-inputs.ensures)
