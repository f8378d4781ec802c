use Rattle.base.specs.PickLaws.{pick_true, pick_false}
use Rattle.c_bench.specs.Outputs.{outputs}
use Rattle.c_bench.proofs.outputs.active_outputs.Goals as goal

pub returns-then-bit : goal.returns-then-bit
unfolding outputs
returns-then-bit c = simp (← c.bit.ensures, c.if-bit.true, pick_true)

pub returns : goal.returns
unfolding outputs
returns c = simp (← c.nibble.ensures.0, ← c.bit-5.ensures, ← c.bit-4.ensures, ← c.bit-3.ensures, ← c.bit-2.ensures, ← c.bit.ensures, c.if-bit.false, pick_false)
