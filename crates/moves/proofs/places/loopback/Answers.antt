use Rattle.moves.specs.Moved.{loopback_moved}
use Rattle.moves.proofs.places.loopback.Goals as goal

pub returns : goal.returns
unfolding loopback_moved
returns c = simp (c.flag.ensures, ← c.is_looped-2.ensures, ← c.is_looped.ensures)
