use Rattle.page.specs.PieceLaws.{with_append, with_none}
use Rattle.page.specs.Pieces.{with}
use Rattle.controller_page.specs.ControllerPages.{set_words}
use Rattle.controller_page.proofs.set_of_lines.Goals as goal

pub returns : goal.returns
unfolding with set_words
returns c = simp (c.lines.ensures, c.text-2.ensures, c.hex.ensures, c.text.ensures, c.empty.ensures, with_append, with_none)
