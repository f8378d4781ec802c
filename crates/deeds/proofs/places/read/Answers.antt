use Rattle.page.specs.PieceLaws.{with_append, with_none}
use Rattle.page.specs.Pieces.{with}
use Rattle.deeds.specs.Done.{read_done}
use Rattle.deeds.proofs.places.read.Goals as goal

pub returns : goal.returns
unfolding with read_done
returns c = simp (c.register.ensures, c.text-reads.ensures, c.at_seat.ensures, c.empty.ensures, with_append, with_none)
