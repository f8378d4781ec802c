-- The rows of a list.
use Rattle.std.specs.Prelude.{ℕ, suc, List, [], ◌∷◌, eqb}
use Rattle.base.specs.Pick.{pick}

-- the row of the first number that is the one asked; where none is, the number of rows
unfoldable pub row_of : ℕ → List ℕ → ℕ
row_of n [] = 0
row_of n (m ∷ ms) = pick (eqb m n) 0 (suc (row_of n ms))
