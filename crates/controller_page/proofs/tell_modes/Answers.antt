use Rattle.controller_page.specs.ControllerPages.{mode_pieces}
use Rattle.page.specs.PageLaws.{joined_piece}
use Rattle.controller_page.proofs.tell_modes.Goals as goal

pub returns : goal.returns
unfolding mode_pieces
returns c = simp (c.join.ensures, c.word-4.ensures, c.empty-4.ensures, c.join-page-3.ensures, c.word-3.ensures, c.empty-3.ensures, c.join-page-2.ensures, c.word-2.ensures, c.empty-2.ensures, c.join-page.ensures, c.word.ensures, c.empty.ensures, joined_piece)
