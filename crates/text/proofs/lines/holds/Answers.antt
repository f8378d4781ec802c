use Prim.Native.Nat.{◌+◌, ◌<◌, ◌^◌}
use mathlib.Core.Path.{sym}
use native.Mathlib.Omega.{arith}
use lib.ListN.{length}
use borrow.Author.Tests.{le-leb}
use Rattle.text.specs.Line.{decimal}
use Rattle.text.specs.DecimalLaws.{decimal_length}
use Rattle.text.proofs.lines.holds.Goals as goal

pub returns-then-room-digits-ge-REST : goal.returns-then-room-digits-ge-REST
returns-then-room-digits-ge-REST c = let a = c.args in
    let byte : a.refusal < 10 ^ 3 = omega arith in
    sym (le-leb (a.digits + length (decimal a.refusal) + 9) a.room (omega (arith, decimal_length 2 _ byte)))

pub overflow_add-result : goal.overflow_add-result
overflow_add-result c = let byte : c.from.result < 10 ^ 3 = omega arith in omega (arith, decimal_length 2 _ byte)
