use Rattle.page.specs.PageLaws.{joined_all_lem}
use Rattle.moves.specs.Moved.{troubles_moved, changes_moved, channel_moved}
use Rattle.moves.proofs.places.channel_moved.Goals as goal

pub returns : goal.returns
unfolding channel_moved troubles_moved changes_moved
returns c = simp (c.loopback.ensures, c.latches-inputs.ensures, c.msr-2.ensures, c.msr.ensures, c.flags-flags.ensures, c.latches-troubles.ensures, c.lsr-2.ensures, c.lsr.ensures, c.queues-queues.ensures, joined_all_lem)
