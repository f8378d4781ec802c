-- The columns of a text: where its lines keep to the width of a terminal.
use Rattle.std.specs.Prelude.{ℕ, ◌+◌, ◌≤◌, Bool, true, ◌&&◌, List, [], ◌∷◌, ◌≡◌, ltb, eqb, length}
use Rattle.base.specs.Pick.{pick}
use Rattle.text.specs.Line.{newline}
use Rattle.page.specs.Pages.{width, shown, headed, joined_all, ended}
use Rattle.page.specs.Notes.{commented}

-- a text that begins in this column has "lines of at most 80 columns"
unfoldable pub keeps : ℕ → List ℕ → Bool
keeps column [] = true
keeps column (c ∷ rest) = pick (eqb c newline) (keeps 0 rest) (ltb column width && keeps (column + 1) rest)

-- no line ends within these bytes
abbrev pub OneLine : List ℕ → Type 0
OneLine [] = Unit {0}
OneLine (c ∷ rest) = (c ≡ newline → ⊥) × OneLine rest

abbrev pub AllOneLine : List (List ℕ) → Type 0
AllOneLine [] = Unit {0}
AllOneLine (words ∷ rest) = OneLine words × AllOneLine rest

-- a page of a head, pieces and a comment, whatever that is, fits a terminal
abbrev pub FitsTerminal : Type 0
FitsTerminal =
    (head : List ℕ) (pieces : List (List ℕ)) (comment : List ℕ) → OneLine head → length head ≤ width → AllOneLine pieces
    → keeps 0 (shown (ended (commented (joined_all (headed head) pieces) comment))) ≡ true
