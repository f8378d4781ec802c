use Rattle.page.specs.PieceLaws.{with_append, with_none}
use Rattle.page.specs.Pieces.{with}
use Rattle.deeds.specs.Done.{controller_write_done}
use Rattle.deeds.proofs.ports.write.Goals as goal

pub returns : goal.returns
unfolding with controller_write_done
returns c = simp (c.hex.ensures, c.text.ensures, c.word.ensures, c.text-writes.ensures, c.empty.ensures, with_append, with_none)
