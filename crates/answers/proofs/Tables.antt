-- Words by a table, at a number that is known and at one that the table does not have.
use Prim.Native.Nat.{ℕ}
use mathlib.Core.List.{List, [], ◌∷◌}
use mathlib.Core.Path.{◌≡◌, refl, sym, ap, ◌∙◌}
use borrow.Author.Tests.{ne_eqb}
use Rattle.base.specs.PickLaws.{pick_false}
use Rattle.page.specs.Pieces.{with}
use Rattle.page.specs.declared.Piece.{Piece}
use Rattle.names.specs.Names.{Row}
use Rattle.names.specs.Words.{words_by}

-- what is told at a number, where it is this one
pub at_number : (words : ℕ → List ℕ) (p r : Piece) {n m : ℕ} → n ≡ m → r ≡ with p (words m) → r ≡ with p (words n)
at_number words p r is told = told ∙ ap (λ (k : ℕ). with p (words k)) (sym is)

-- no row has the number, and this holds besides
abbrev pub Lacks : Type 0 → ℕ → List Row → Type 0
Lacks besides n [] = besides
Lacks besides n (r ∷ rows) = Lacks (besides × (n ≡ r.number → ⊥)) n rows

-- what holds besides
pub holds_besides : (besides : Type 0) (n : ℕ) (rows : List Row) → Lacks besides n rows → besides
holds_besides besides n [] lacks = lacks
holds_besides besides n (r ∷ rows) lacks = (holds_besides (besides × (n ≡ r.number → ⊥)) n rows lacks).0

pub none_by : (besides : Type 0) (rows : List Row) (n : ℕ) (others : List ℕ) → Lacks besides n rows → words_by rows n others ≡ others
none_by besides [] n others lacks = refl
none_by besides (r ∷ rows) n others lacks =
    let two : _ = holds_besides (besides × (n ≡ r.number → ⊥)) n rows lacks in
    pick_false _ _ _ (ne_eqb n r.number two.1) ∙ none_by (besides × (n ≡ r.number → ⊥)) rows n others lacks
