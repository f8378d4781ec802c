-- Closed instances of laws, each false under a slip of `must-fail`, which names it.
use Prim.Native.Nat.{ℕ}
use mathlib.Core.List.{[], ◌∷◌}
use mathlib.Core.Path.{◌≡◌, refl}
use lib.ListN.{replicate}
use Rattle.base.specs.Pick.{pick}
use Rattle.page.specs.Pages.{no_page, column_after, put_byte, put, headed, separation, fits, placed, joined}
use Rattle.page.specs.declared.Page.{Page}

abbrev column_of : Page → ℕ
column_of p = p.column

-- `over` of `Examples`: behind 12 columns a piece of 66 ends in column 78, and one byte behind a semicolon and a blank would end in column 81, so it begins a line
column_81_is_too_far : column_of (joined (joined (headed (replicate 12 32)) (replicate 66 65)) (65 ∷ [])) ≡ 13
unfolding pick no_page column_after put_byte put headed separation fits placed joined
column_81_is_too_far = refl
