use native.Mathlib.Omega.{arith}
use Prim.Native.Nat.{◌/◌}
use Rattle.text.specs.DecimalLaws.{length_small, length_large, front_length}
use Rattle.account.proofs.HeadPiece.{padded_by}
use Rattle.account.proofs.heads.blanks.Goals as goal

pub returns-then-n-lt10 : goal.returns-then-n-lt10
returns-then-n-lt10 c = let a = c.args in
    padded_by a.piece _ a.n a.refusal 2 c.text.ensures
    (omega (arith, length_small a.n (omega arith), length_small a.refusal (omega arith)))

pub returns-then-n-lt100 : goal.returns-then-n-lt100
returns-then-n-lt100 c = let a = c.args in
    padded_by a.piece _ a.n a.refusal 1 c.text-then-n-lt100.ensures
    (omega (arith, length_large a.n (omega arith), length_small (a.n / 10) (omega arith), length_small a.refusal (omega arith)))

pub returns-then-refusal-lt10 : goal.returns-then-refusal-lt10
returns-then-refusal-lt10 c = let a = c.args in
    padded_by a.piece _ a.n a.refusal 0 c.text-then-refusal-lt10.ensures
    (omega (arith, length_large a.n (omega arith), length_large (a.n / 10) (omega arith), front_length (a.n / 10 / 10), length_small a.refusal (omega arith)))

pub returns-then-refusal-ge100 : goal.returns-then-refusal-ge100
returns-then-refusal-ge100 c = let a = c.args in
    padded_by a.piece _ a.n a.refusal 0 c.text-then-refusal-ge100.ensures
    (omega (arith, length_large a.refusal (omega arith), length_large (a.refusal / 10) (omega arith), front_length (a.refusal / 10 / 10), front_length a.n))

pub returns-then-n-lt10-2 : goal.returns-then-n-lt10-2
returns-then-n-lt10-2 c = let a = c.args in
    padded_by a.piece _ a.n a.refusal 1 c.text-then-n-lt10-2.ensures
    (omega (arith, length_small a.n (omega arith), length_large a.refusal (omega arith), length_small (a.refusal / 10) (omega arith)))

pub returns : goal.returns
returns c = let a = c.args in
    padded_by a.piece _ a.n a.refusal 0 c.text-2.ensures
    (omega (arith, length_large a.n (omega arith), front_length (a.n / 10), length_large a.refusal (omega arith), front_length (a.refusal / 10)))
