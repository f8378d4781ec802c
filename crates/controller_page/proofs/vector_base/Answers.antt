use Rattle.page.specs.PieceLaws.{with_append, with_none}
use Rattle.page.specs.Pieces.{with}
use Rattle.controller_page.specs.ControllerPages.{base_words}
use Rattle.controller_page.proofs.vector_base.Goals as goal

pub returns : goal.returns
unfolding with base_words
returns c = simp (c.hex.ensures, c.text.ensures, c.empty.ensures, with_append, with_none)
