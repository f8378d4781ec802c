use Rattle.page.specs.PageLaws.{joined_all_lem}
use Rattle.moves.specs.Moved.{controller_moved}
use Rattle.moves.proofs.signals.at_controller.Goals as goal

pub returns : goal.returns
unfolding controller_moved
returns c = simp (c.output.ensures, c.first-ranked.ensures, ← c.line_at-is.ensures, ← c.line_at-was.ensures, c.turns-served.ensures, c.turns-levels.ensures, c.ready-ready.ensures, joined_all_lem)
