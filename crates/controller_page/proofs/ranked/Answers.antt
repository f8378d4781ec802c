use Rattle.page.specs.PieceLaws.{with_append, with_none}
use Rattle.page.specs.Pieces.{with}
use Rattle.controller_page.proofs.ranked.Goals as goal

pub returns : goal.returns
unfolding with
returns c = simp (c.decimal.ensures, ← c.line_at.ensures, c.text.ensures, with_append, with_none)
