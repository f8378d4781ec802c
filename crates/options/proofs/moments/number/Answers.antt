use mathlib.Core.Path.{sym, ◌∙◌}
use Rattle.base.specs.PickLaws.{pick_true, pick_false}
use Rattle.options.specs.Moments.{number_of}
use Rattle.options.proofs.moments.number.Goals as goal

pub returns-then-is_empty : goal.returns-then-is_empty
unfolding number_of
returns-then-is_empty c = sym (pick_true _ _ _ (sym c.if-is_empty.ensures))

pub returns : goal.returns
unfolding number_of
returns c = c.counted.ensures ∙ sym (pick_false _ _ _ (sym c.if-is_empty.ensures))
