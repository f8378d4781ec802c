use Prim.Native.Nat.{◌/◌, ◌<◌, ◌^◌}
use mathlib.Core.Path.{refl, ◌∙◌}
use native.Mathlib.Omega.{arith}
use native.Mathlib.Nat.{zero-add}
use Rattle.text.specs.DecimalLaws.{decimal_length, front_none, front_tens}
use Rattle.text.proofs.numbers.put_front.Goals as goal

pub returns-then-n-lt10 : goal.returns-then-n-lt10
returns-then-n-lt10 c = rw (front_none _ c.if-n-lt10.true) (refl, refl)

pub put_decimal-requires : goal.put_decimal-requires
put_decimal-requires c = let a = c.args in
    let small : a.n / 10 < 10 ^ 20 = omega arith in omega (arith, decimal_length 19 (a.n / 10) small)

pub returns : goal.returns
returns c = rw (front_tens c.args.n (omega arith)) (c.put_decimal.ensures.0 ∙ zero-add _, c.put_decimal.ensures.1)
