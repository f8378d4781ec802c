use Prim.Native.Nat.{◌%◌}
use native.Mathlib.Omega.{arith}
use mathlib.Core.Path.{◌≡◌, sym, ◌∙◌}
use Rattle.text.specs.DecimalLaws.{decimal_small, decimal_large}
use Rattle.page.specs.PieceLaws.{with_append, with_one}
use Rattle.page.proofs.Piece.+decimal.Goals as goal

pub returns-then-n-lt10 : goal.returns-then-n-lt10
returns-then-n-lt10 t c =
    let small : c.args.n % 10 ≡ c.args.n = omega arith in
    c.byte.ensures ∙ rw (small, decimal_small c.args.n (omega arith)) (sym (with_one _ _))

pub returns : goal.returns
returns t c = c.byte-2.ensures ∙ rw (c.decimal-front.ensures, decimal_large c.args.n (omega arith), with_append) (sym (with_one _ _))
