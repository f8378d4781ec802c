use Rattle.page.specs.PieceLaws.{with_append, with_none}
use Rattle.page.specs.Pieces.{with}
use Rattle.deeds.specs.Done.{levels_done}
use Rattle.deeds.proofs.places.levels.Goals as goal

pub returns : goal.returns
unfolding with levels_done
returns c = simp (c.levels.ensures, c.text-2.ensures, c.at_seat-inputs.ensures, c.text.ensures, c.empty.ensures, with_append, with_none)
