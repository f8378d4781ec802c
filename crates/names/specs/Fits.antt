-- Words that fit a piece: not more than so many bytes, and no line ends within them.
use Rattle.std.specs.Prelude.{ℕ, ◌≤◌, List, [], ◌∷◌, length}
use Rattle.page.specs.Columns.{OneLine}

pub record Fits (most : ℕ) (words : List ℕ) : Type 0 where
  pub short : length words ≤ most
  pub one : OneLine words

-- each of these does
abbrev pub AllFit : ℕ → List (List ℕ) → Type 0
AllFit most [] = Unit {0}
AllFit most (words ∷ pieces) = Fits most words × AllFit most pieces
