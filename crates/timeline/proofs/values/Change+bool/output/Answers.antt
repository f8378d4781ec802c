use Rattle.timeline.proofs.Behind.{in_one, from_start}
use Rattle.page.specs.PieceLaws.{with_append, with_none}
use Rattle.page.specs.Pieces.{with}
use mathlib.Core.Path.{sym, ◌∙◌}
use Rattle.timeline.specs.Dump.{value_line, change}
use Rattle.base.specs.PickLaws.{pick_true, pick_false}
use Rattle.timeline.proofs.values.Change+bool.output.Goals as goal

pub returns-then-is_due : goal.returns-then-is_due
unfolding change value_line
returns-then-is_due c = simp (← c.is_due.ensures, c.if-is_due.true, pick_true)
    (from_start with with_append c.empty-none.ensures (in_one with with_append c.value.ensures c.text.ensures))

pub returns : goal.returns
unfolding change
returns c = simp (← c.is_due.ensures, c.if-is_due.false, pick_false) (c.empty-none.ensures ∙ sym (with_none _))
