-- No piece of the controller's page has more than the 68 characters of docs/TELLING.md, and the page has room for all of them; so none is cut.
use Rattle.std.specs.Prelude.{◌<◌, true, ◌≡◌}
use Rattle.page.specs.Pieces.{piece_most}
use Rattle.page.specs.Pages.{page_most, shown, headed, joined_all}
use Rattle.page.specs.Columns.{keeps}
use Rattle.names.specs.Fits.{AllFit}
use Rattle.controller.specs.declared.Controller.{Controller}
use Rattle.controller_page.specs.ControllerPages.{controller_head, controller_pieces, controller_page}

abbrev pub NoneCut : Type 0
NoneCut = (c : Controller) → AllFit piece_most (controller_pieces c)

-- there is room for the line feed behind the last piece
abbrev pub Whole : Type 0
Whole = (c : Controller) → (joined_all (headed controller_head) (controller_pieces c)).count < page_most

-- "lines of at most 80 columns"
abbrev pub OnTerminal : Type 0
OnTerminal = (c : Controller) → keeps 0 (shown (controller_page c)) ≡ true
