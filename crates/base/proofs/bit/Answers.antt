use Prim.Native.Nat.{◌^◌, ◌≤◌}
use mathlib.Core.Path.{refl, sym}
use native.Mathlib.Nat.{pow-le-pow_right}
use native.Mathlib.Omega.{arith}
use borrow.Author.Rules.{rules}
use Rattle.base.specs.Bits.{bit}
use Rattle.base.proofs.BitLaws.{bit_past}
use Rattle.base.proofs.bit.Goals as goal

pub returns-then-k-lt8 : goal.returns-then-k-lt8
unfolding bit
returns-then-k-lt8 c = refl

pub returns : goal.returns
returns c = let large : 2 ^ 8 ≤ 2 ^ c.args.k = pow-le-pow_right (omega arith) c.if-k-lt8.false in
    sym (bit_past c.args.k c.args.byte (omega arith))
