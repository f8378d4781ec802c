use Prim.Native.Nat.{◌<◌, ◌^◌}
use mathlib.Core.Path.{◌≡◌, sym, ap, ◌∙◌}
use native.Mathlib.Omega.{arith}
use Rattle.base.specs.Answers.{refusal_of}
use Rattle.page.specs.Pieces.{piece, said}
use Rattle.page.specs.PieceLaws.{said_all}
use Rattle.page.specs.Pages.{headed}
use Rattle.page.specs.declared.Piece.{Piece}
use Rattle.account.specs.Head.{head_words}
use Rattle.account.specs.HeadLaws.{head_short}
use Rattle.account.proofs.HeadPiece.{head_piece}
use Rattle.account.proofs.heads.begun.Goals as goal

pub returns : goal.returns
returns c = let a = c.args in
    let whole : c.blanks.result ≡ piece (head_words a.n a.answer a.output) =
    simp (c.blanks.ensures, c.figures-line.ensures, c.value.ensures, c.decimal-numbers.ensures, c.text.ensures, c.decimal.ensures, c.empty.ensures, c.refusal-refusal.ensures)
    (sym (head_piece a.n a.answer a.output)) in
    let byte : refusal_of a.answer < 10 ^ 3 = omega (arith, c.refusal-refusal.ensures) in
    c.begin.ensures
    ∙ ap (λ (p : Piece). headed (said p)) whole
    ∙ ap headed (said_all (head_words a.n a.answer a.output) (omega (arith, head_short a.n a.answer a.output (omega arith) byte)))
