use mathlib.Core.Path.{sym}
use native.Mathlib.Omega.{arith}
use Rattle.rates.specs.Rates.{divisors_of, first, second, third}
use Rattle.rates.proofs.Rows.{no_divisors}
use Rattle.rates.proofs.divisors.Goals as goal

pub returns-in-0 : goal.returns-in-0
unfolding divisors_of first
returns-in-0 c = rw c.in-0.is

pub returns-in-1 : goal.returns-in-1
unfolding divisors_of second
returns-in-1 c = rw c.in-1.is

pub returns-in-2 : goal.returns-in-2
unfolding divisors_of third
returns-in-2 c = rw c.in-2.is

pub returns-in_default : goal.returns-in_default
returns-in_default c = sym (no_divisors c.args.clock (omega arith))
