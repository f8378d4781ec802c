-- What is said behind what was said, on a piece or a page, is said in one.
use Prim.Native.Nat.{ℕ, ◌≤◌}
use mathlib.Core.List.{List, ◌++◌}
use mathlib.Core.Path.{◌≡◌, sym, ap, ◌∙◌}
use lib.ListN.{length}
use Rattle.page.specs.Pieces.{piece_most, piece, said}
use Rattle.page.specs.PieceLaws.{said_all}
use Rattle.page.specs.Pages.{put}
use Rattle.page.specs.declared.Piece.{Piece}
use Rattle.page.specs.declared.Page.{Page}

module _ {A : Type 0} (f : A → List ℕ → A) (append : (p : A) (first then : List ℕ) → f p (first ++ then) ≡ f (f p first) then) where
  pub in_one : {p q r : A} {a b : List ℕ} → q ≡ f p a → r ≡ f q b → r ≡ f p (a ++ b)
  in_one {p} {q} {r} {a} {b} first second = second ∙ ap (λ (x : A). f x b) first ∙ sym (append p a b)

  -- the same from the beginning
  pub from_start : {p q r : A} {a : List ℕ} → q ≡ p → r ≡ f q a → r ≡ f p a
  from_start {p} {q} {r} {a} start then = then ∙ ap (λ (x : A). f x a) start

-- a piece that is long enough for its words puts all of them
pub put_said : (p : Page) {q : Piece} (words : List ℕ) → q ≡ piece words → length words ≤ piece_most → put p (said q) ≡ put p words
put_said p words is few = ap (put p) (ap said is ∙ said_all words few)
