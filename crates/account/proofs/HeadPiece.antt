-- A head as one piece.
use Prim.Native.Nat.{ℕ, ◌+◌, ◌-◌}
use mathlib.Core.Bool.{Bool}
use mathlib.Core.List.{List, [], ◌∷◌, ◌++◌}
use mathlib.Core.Path.{◌≡◌, sym, ap, ◌∙◌}
use lib.ListN.{length, replicate}
use Rattle.base.specs.Answers.{refusal_of, value_of}
use Rattle.base.specs.declared.Answer.{Answer}
use Rattle.text.specs.Line.{space, decimal}
use Rattle.page.specs.Pieces.{no_piece, with, piece}
use Rattle.page.specs.PieceLaws.{with_append}
use Rattle.page.specs.declared.Piece.{Piece}
use Rattle.account.specs.Head.{figures_shown, blanks, head_words}
use Rattle.account.specs.HeadLaws.{head_front}

pub padded_by : (p r : Piece) (n refusal k : ℕ) → r ≡ with p (space ∷ replicate k space)
    → 11 - (length (decimal n) + length (decimal refusal) + 7) ≡ k → r ≡ with p (blanks (length (decimal n) + length (decimal refusal) + 7))
unfolding blanks
padded_by p r n refusal k told few = told ∙ ap (λ (m : ℕ). with p (space ∷ replicate m space)) (sym few)

-- number, refusal, figures and blanks, one behind the other
pub head_piece : (n : ℕ) (a : Answer) (o : Bool)
    → piece (head_words n a o)
    ≡ with (with (with (with (with no_piece (decimal n)) (space ∷ [])) (decimal (refusal_of a))) (figures_shown (value_of a) o))
    (blanks (length (decimal n) + length (decimal (refusal_of a)) + 7))
head_piece n a o =
    let size : ℕ = length (decimal n) + length (decimal (refusal_of a)) + 7 in
    let figures : List ℕ = figures_shown (value_of a) o in
    let number : Piece = with no_piece (decimal n) in
    ap piece (head_front n a o)
    ∙ with_append no_piece (decimal n ++ (space ∷ (decimal (refusal_of a) ++ figures))) (blanks size)
    ∙ ap (λ (p : Piece). with p (blanks size))
    (with_append no_piece (decimal n) (space ∷ (decimal (refusal_of a) ++ figures))
    ∙ with_append number (space ∷ []) (decimal (refusal_of a) ++ figures)
    ∙ with_append (with number (space ∷ [])) (decimal (refusal_of a)) figures)
