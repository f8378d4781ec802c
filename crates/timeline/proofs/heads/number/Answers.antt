use Prim.Native.Nat.{ℕ}
use mathlib.Core.Path.{ap, ◌∙◌}
use native.Mathlib.Omega.{arith}
use Rattle.page.specs.Pieces.{with}
use Rattle.page.specs.declared.Piece.{Piece}
use Rattle.text.specs.Line.{decimal}
use Rattle.text.specs.DecimalLaws.{decimal_length}
use Rattle.timeline.proofs.Behind.{put_said}
use borrow.Author.Rules.{rules}
use Rattle.timeline.proofs.heads.number.Goals as goal

pub returns : goal.returns
returns c = let n : ℕ = c.args.n in
    c.add.ensures
    ∙ put_said _ (decimal n) (c.decimal.ensures ∙ ap (λ (p : Piece). with p (decimal n)) c.empty.ensures)
    (omega (arith, decimal_length 2 n (search rules)))
