-- The page of the controller. docs/TELLING.md has its pieces under `--show`: the state.
use Rattle.std.specs.Prelude.{ℕ, List, [], ◌∷◌, ◌++◌, replicate}
use Rattle.base.specs.Pick.{pick}
use Rattle.text.specs.Line.{space, decimal}
use Rattle.text.specs.Quoted.{quoted}
use Rattle.page.specs.Pieces.{hex}
use Rattle.page.specs.Pages.{headed, joined_all, ended}
use Rattle.page.specs.declared.Page.{Page}
use Rattle.names.specs.Words.{lines_said}
use Rattle.rank.specs.Rank.{order}
use Rattle.controller.specs.declared.Controller.{Controller}
use Rattle.controller.specs.declared.Setup.{Setup}
use Rattle.controller.specs.State.{ready}
use Rattle.controller.specs.Turns.{requests, output_of}

-- "A head is 12 blanks, the name and `: `, as in `seat 2: ` and `controller: `."
unfoldable pub controller_head : List ℕ
controller_head = replicate 12 space ++ quoted "controller: "

-- "`base B`"
unfoldable pub base_words : ℕ → List ℕ
base_words base = quoted "base " ++ hex base

-- "1. `ready`, or `not ready`; `level mode` or `edge mode`; `base B`"
unfoldable pub setup_pieces : Setup → List (List ℕ)
setup_pieces s =
    pick (ready s) (quoted "ready") (quoted "not ready")
    ∷ pick s.level (quoted "level mode") (quoted "edge mode")
    ∷ base_words s.base
    ∷ []

-- "`requests B: ` and the lines of the set"
unfoldable pub set_words : List ℕ → ℕ → List ℕ
set_words words set = words ++ (hex set ++ (quoted ": " ++ lines_said set))

-- "2. `requests B: ` and the lines of the set, masked or not; `mask B: ` the same; `in service B: ` the same"
unfoldable pub set_pieces : Controller → List (List ℕ)
set_pieces c =
    set_words (quoted "requests ") (requests c)
    ∷ set_words (quoted "mask ") c.operation.mask
    ∷ set_words (quoted "in service ") c.operation.service
    ∷ []

-- lines, "each behind a blank"
abbrev pub behind_blanks : List ℕ → List ℕ
behind_blanks [] = []
behind_blanks (n ∷ lines) = quoted " " ++ (decimal n ++ behind_blanks lines)

-- "3. `rank`, and the eight lines from the first-ranked one, each behind a blank"
unfoldable pub rank_words : ℕ → List ℕ
rank_words first = quoted "rank" ++ behind_blanks (order first)

-- "4. `special mask`, `automatic end`, `rotation`, each where it is on; `port 0 reads in service` where that is selected"
unfoldable pub mode_pieces : Controller → List (List ℕ)
mode_pieces c =
    pick c.operation.special (quoted "special mask") []
    ∷ pick c.setup.automatic (quoted "automatic end") []
    ∷ pick c.operation.rotation (quoted "rotation") []
    ∷ pick c.operation.selected (quoted "port 0 reads in service") []
    ∷ []

-- "5. `output high` or `output low`"
unfoldable pub output_words : Controller → List ℕ
output_words c = pick (output_of c) (quoted "output high") (quoted "output low")

-- "Pieces of the controller"
unfoldable pub controller_pieces : Controller → List (List ℕ)
controller_pieces c =
    setup_pieces c.setup ++ (set_pieces c ++ (rank_words c.operation.first ∷ (mode_pieces c ++ (output_words c ∷ []))))

unfoldable pub controller_page : Controller → Page
controller_page c = ended (joined_all (headed controller_head) (controller_pieces c))
