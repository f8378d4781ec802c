use Prim.Native.Nat.{◌/◌, ◌<◌, ◌^◌}
use native.Mathlib.Omega.{arith}
use mathlib.Core.Path.{sym}
use Rattle.text.specs.DecimalLaws.{length_small, length_large, decimal_length}
use Rattle.text.proofs.numbers.+digit_count.Goals as goal

pub returns-then-n-lt10 : goal.returns-then-n-lt10
returns-then-n-lt10 t c = sym (length_small _ c.if-n-lt10.true)

pub overflow_add-result : goal.overflow_add-result
overflow_add-result t c = let b : c.args.n / 10 < 10 ^ 20 = omega arith in omega (arith, decimal_length 19 _ b)

pub returns : goal.returns
returns t c = omega (arith, length_large _ c.if-n-lt10.false)
