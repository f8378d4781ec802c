use mathlib.Core.Path.{sym, ◌∙◌}
use Rattle.base.specs.PickLaws.{pick_true, pick_false}
use Rattle.options.specs.Words.{once, place_of}
use Rattle.options.proofs.Words.once.Goals as goal

pub returns-then-is_some : goal.returns-then-is_some
unfolding once place_of
returns-then-is_some c = c.stopped.ensures ∙ sym (pick_true _ _ _ (sym c.if-is_some.ensures))

pub returns : goal.returns
unfolding once place_of
returns c = rw c.placed.ensures (sym (pick_false _ _ _ (sym c.if-is_some.ensures)))
