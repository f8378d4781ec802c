use Rattle.deeds.specs.Done.{cut_done}
use Rattle.deeds.proofs.deed.cut.Goals as goal

pub returns : goal.returns
unfolding cut_done
returns c = simp (c.text.ensures, c.empty.ensures)
