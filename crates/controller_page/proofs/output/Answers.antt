use Rattle.page.specs.PieceLaws.{with_append, with_none}
use Rattle.controller_page.specs.ControllerPages.{output_words}
use Rattle.controller_page.proofs.output.Goals as goal

pub returns : goal.returns
unfolding output_words
returns c = simp (c.either.ensures, c.output.ensures, with_append, with_none)
