use Rattle.page.specs.PageLaws.{joined_all_lem}
use Rattle.moves.specs.Moved.{output_moved}
use Rattle.moves.proofs.signals.output.Goals as goal

pub returns : goal.returns
unfolding output_moved
returns c = simp (c.flag.ensures, c.output-2.ensures, c.output.ensures, joined_all_lem)
