use Rattle.page.specs.PieceLaws.{with_append, with_none}
use Rattle.page.specs.Pieces.{with}
use Rattle.controller_page.specs.ControllerPages.{controller_head}
use Rattle.controller_page.proofs.head.Goals as goal

pub returns : goal.returns
unfolding with controller_head
returns c = simp (c.text-2.ensures, c.text.ensures, c.empty.ensures, with_append, with_none)
