use Rattle.controller.specs.Turns.{requests}
use Rattle.controller_page.specs.ControllerPages.{set_pieces}
use Rattle.page.specs.PageLaws.{joined_piece}
use Rattle.controller_page.proofs.tell_sets.Goals as goal

pub returns : goal.returns
unfolding set_pieces requests
returns c = simp (c.join.ensures, c.set_of_lines-3.ensures, c.join-page-2.ensures, c.set_of_lines-2.ensures, c.join-page.ensures, c.set_of_lines.ensures, c.requests.ensures, joined_piece)
