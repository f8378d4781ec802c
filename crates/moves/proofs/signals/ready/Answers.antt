use Rattle.moves.specs.Moved.{ready_moved}
use Rattle.moves.proofs.signals.ready.Goals as goal

pub returns : goal.returns
unfolding ready_moved
returns c = simp c.flag.ensures
