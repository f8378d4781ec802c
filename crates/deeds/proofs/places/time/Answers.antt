use Rattle.page.specs.PieceLaws.{with_append, with_none}
use Rattle.page.specs.Pieces.{with}
use Rattle.deeds.specs.Done.{time_done}
use Rattle.deeds.proofs.places.time.Goals as goal

pub returns : goal.returns
unfolding with time_done
returns c = simp (c.at_seat.ensures, c.text.ensures, c.empty.ensures, with_append, with_none)
