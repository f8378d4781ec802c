use Rattle.base.specs.PickLaws.{pick_true, pick_false}
use Rattle.names.specs.Words.{name_of}
use Rattle.names.proofs.registers.named.Goals as goal

pub returns-then-write : goal.returns-then-write
unfolding name_of
returns-then-write c = simp (c.written.ensures, c.if-write.true, pick_true)

pub returns : goal.returns
unfolding name_of
returns c = simp (c.read.ensures, c.if-write.false, pick_false)
