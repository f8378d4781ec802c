use Rattle.base.specs.PickLaws.{pick_true, pick_false}
use Rattle.deeds.specs.Done.{word_at0}
use Rattle.deeds.proofs.ports.word_at_0.Goals as goal

pub returns-then-bit : goal.returns-then-bit
unfolding word_at0
returns-then-bit c = simp (c.text.ensures, ← c.bit.ensures, c.if-bit.true, pick_true)

pub returns-then-bit-2 : goal.returns-then-bit-2
unfolding word_at0
returns-then-bit-2 c = simp (c.text-then-bit-2.ensures, ← c.bit-2.ensures, ← c.bit.ensures, c.if-bit-2.true, c.if-bit.false, pick_true, pick_false)

pub returns : goal.returns
unfolding word_at0
returns c = simp (c.text-2.ensures, ← c.bit-2.ensures, ← c.bit.ensures, c.if-bit-2.false, c.if-bit.false, pick_false)
