-- A closed instance of a law, false under the slip of must-fail/.
use Prim.Native.Nat.{ℕ}
use mathlib.Core.List.{List, []}
use mathlib.Core.Path.{◌≡◌, refl}
use lib.ListN.{get_or}
use Rattle.base.specs.Pick.{pick}
use Rattle.base.specs.Bits.{bit, digit}
use Rattle.text.specs.Line.{capital, digits_within, decimal}
use Rattle.text.specs.Quoted.{quoted}
use Rattle.page.specs.Pieces.{hex}
use Rattle.names.specs.Words.{lines_in, line_list, lines_said}
use Rattle.controller.specs.declared.Controller.{Controller}
use Rattle.controller.specs.State.{power_up, empty_operation, with_operation, with_mask}
use Rattle.controller_page.specs.ControllerPages.{setup_pieces, set_words, set_pieces, rank_words, controller_pieces}

-- a piece by its place
unfoldable piece_at : Controller → ℕ → List ℕ
unfolding pick bit digit capital digits_within decimal hex lines_in line_list lines_said setup_pieces set_words set_pieces rank_words controller_pieces
piece_at c k = get_or (controller_pieces c) k []

-- `all_on` of `Examples`: line 3 is masked, and none is in service
mask_is_told : piece_at (with_operation power_up (with_mask empty_operation 0x08)) 4 ≡ quoted "mask 08: line 3"
unfolding piece_at
mask_is_told = refl
