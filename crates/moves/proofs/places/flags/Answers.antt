use Rattle.page.specs.PageLaws.{joined_all_lem}
use Rattle.moves.specs.Moved.{flags_moved}
use Rattle.moves.proofs.places.flags.Goals as goal

pub returns : goal.returns
unfolding flags_moved
returns c = simp (c.flag.ensures, c.flag-timeout.ensures, ← c.timed_out-2.ensures, ← c.timed_out.ensures, joined_all_lem)
