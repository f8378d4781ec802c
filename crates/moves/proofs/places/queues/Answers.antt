use Rattle.page.specs.PageLaws.{joined_all_lem}
use Rattle.moves.specs.Moved.{queues_moved}
use Rattle.moves.proofs.places.queues.Goals as goal

pub returns : goal.returns
unfolding queues_moved
returns c = simp (c.flag.ensures, c.count-sending.ensures, c.count-queued.ensures, joined_all_lem)
