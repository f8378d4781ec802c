use Rattle.page.specs.PieceLaws.{with_append, with_none}
use Rattle.page.specs.Pieces.{with}
use Rattle.deeds.specs.Done.{arrival_done}
use Rattle.deeds.proofs.places.arrival.Goals as goal

pub returns : goal.returns
unfolding with arrival_done
returns c = simp (c.marks.ensures, c.at_seat.ensures, c.text-arrives.ensures, c.letter.ensures, c.empty.ensures, with_append, with_none)
