use Rattle.controller_page.specs.ControllerPages.{setup_pieces}
use Rattle.page.specs.PageLaws.{joined_piece}
use Rattle.controller_page.proofs.tell_setup.Goals as goal

pub returns : goal.returns
unfolding setup_pieces
returns c = simp (c.join-3.ensures, c.vector_base.ensures, c.join-2.ensures, c.join.ensures, c.either-mode.ensures, c.either-ready.ensures, joined_piece)
