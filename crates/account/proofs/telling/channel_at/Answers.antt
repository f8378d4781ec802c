use Rattle.bench.specs.Seats.{seat}
use Rattle.account.proofs.telling.channel_at.Goals as goal

pub returns : goal.returns
unfolding seat
returns c = simp c.chair.ensures
