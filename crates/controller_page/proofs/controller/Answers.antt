use Rattle.controller_page.specs.ControllerPages.{controller_page, controller_pieces, controller_head}
use Rattle.controller_page.specs.HeadLaws.{controller_head_short}
use Rattle.page.specs.PieceLaws.{said_all}
use Rattle.page.specs.PageLaws.{joined_all_lem, joined_piece}
use Rattle.controller_page.proofs.controller.Goals as goal

pub returns : goal.returns
unfolding controller_page controller_pieces
returns c = simp (c.end.ensures, c.join-2.ensures, c.output.ensures, c.tell_modes-page.ensures, c.join.ensures, c.rank.ensures, c.tell_sets-page.ensures, c.tell_setup.ensures, c.begin.ensures, c.head.ensures, said_all controller_head controller_head_short, joined_all_lem, joined_piece)
