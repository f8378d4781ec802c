use Rattle.page.specs.PieceLaws.{with_append, with_none}
use Rattle.page.specs.Pieces.{with}
use Rattle.deeds.specs.Done.{write_done}
use Rattle.deeds.proofs.places.write.Goals as goal

pub returns : goal.returns
unfolding with write_done
returns c = simp (c.value_written.ensures, c.text-named.ensures, c.register.ensures, c.text-writes.ensures, c.at_seat.ensures, c.empty.ensures, with_append, with_none)
