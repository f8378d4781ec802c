use Rattle.timeline.proofs.Behind.{in_one}
use Rattle.page.specs.PieceLaws.{with_append, with_none}
use Rattle.page.specs.Pieces.{with}
use mathlib.Core.Path.{sym}
use Rattle.timeline.specs.Dump.{value_line, change}
use Rattle.base.specs.PickLaws.{pick_true, pick_false}
use Rattle.timeline.proofs.values.Change+u8.of_bit.Goals as goal

pub returns-then-is_due : goal.returns-then-is_due
unfolding change value_line
returns-then-is_due c = let due : _ = simp (c.bit-bit.ensures) at c.is_due.ensures in simp (← due, c.if-is_due.true, pick_true)
    (in_one with with_append (simp (c.bit-bit.ensures) at c.value.ensures) (in_one with with_append (in_one with with_append (in_one with with_append c.text.ensures c.decimal-name.ensures) c.decimal.ensures) c.text-then-is_due.ensures))

pub returns : goal.returns
unfolding change
returns c = let due : _ = simp (c.bit-bit.ensures) at c.is_due.ensures in simp (← due, c.if-is_due.false, pick_false) (sym (with_none _))
