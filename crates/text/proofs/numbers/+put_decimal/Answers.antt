use native.Mathlib.Omega.{arith}
use native.Mathlib.Nat.{mod-eq_of_lt}
use Rattle.text.specs.DecimalLaws.{decimal_small, decimal_large, length_small, length_large}
use Rattle.base.specs.StoreLaws.{sets_append}
use Rattle.text.proofs.numbers.+put_decimal.Goals as goal

pub bounds-out-at : goal.bounds-out-at
bounds-out-at t c = omega (arith, length_small _ c.if-n-lt10.true)

pub returns-then-n-lt10 : goal.returns-then-n-lt10
returns-then-n-lt10 t c = (
  omega (arith, length_small _ c.if-n-lt10.true),
  rw (decimal_small _ c.if-n-lt10.true, mod-eq_of_lt c.if-n-lt10.true),
)

pub put_decimal-end-requires : goal.put_decimal-end-requires
put_decimal-end-requires t c = (omega arith, omega (arith, length_large _ c.if-n-lt10.false))

pub bounds-out-end : goal.bounds-out-end
bounds-out-end t c = omega (arith, length_large _ c.if-n-lt10.false)

pub overflow_add-result-2 : goal.overflow_add-result-2
overflow_add-result-2 t c = omega (arith, length_large _ c.if-n-lt10.false)

pub returns : goal.returns
returns t c = (
  omega (arith, length_large _ c.if-n-lt10.false),
  rw (c.put_decimal-end.ensures.1, c.put_decimal-end.ensures.0, decimal_large _ c.if-n-lt10.false, sets_append),
)
