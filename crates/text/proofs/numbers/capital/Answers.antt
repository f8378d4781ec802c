use Prim.Native.Nat.{ℕ, ◌%◌}
use native.Mathlib.Omega.{arith}
use lib.ListN.{get_or}
use Rattle.base.specs.Pick.{pick}
use Rattle.base.specs.EveryLaws.{equal_at}
use Rattle.text.specs.Line.{capital}
use Rattle.text.specs.Quoted.{quoted}
use Rattle.text.proofs.numbers.capital.Goals as goal

pub returns : goal.returns
unfolding capital pick
returns c = equal_at 16 (λ (digit : ℕ). get_or (quoted "0123456789ABCDEF") digit 0) capital tt (c.args.number % 16) (omega arith)
