use Rattle.base.specs.PickLaws.{pick_true, pick_false}
use Rattle.deeds.specs.Done.{value_written}
use Rattle.deeds.proofs.places.value_written.Goals as goal

pub returns-then-number-divisor : goal.returns-then-number-divisor
unfolding value_written
returns-then-number-divisor c = simp (c.letter.ensures, c.if-number-divisor.true, pick_true)

pub returns : goal.returns
unfolding value_written
returns c = simp (c.hex.ensures, c.if-number-divisor.false, pick_false)
