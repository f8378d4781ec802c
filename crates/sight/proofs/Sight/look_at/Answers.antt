use Rattle.sight.specs.Sights.{look_at}
use Rattle.sight.proofs.Sight.look_at.Goals as goal

pub returns : goal.returns
unfolding look_at
returns c = simp (← c.chair.ensures)
