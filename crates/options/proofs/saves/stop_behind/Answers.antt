use mathlib.Core.Path.{sym, ◌∙◌}
use native.Mathlib.Omega.{arith}
use borrow.Author.Tests.{lt-ltb, le-ltb}
use Rattle.base.specs.PickLaws.{tests, pick_true, pick_false}
use Rattle.options.specs.Saves.{stop_behind}
use Rattle.options.proofs.saves.stop_behind.Goals as goal
use Rattle.options.proofs.saves.stop_behind.Goals.{else-from-count-via-then-from-count+else-count-most, else-from-count-via-else-from-count}

pub returns-then-count-most : goal.returns-then-count-most
unfolding stop_behind
returns-then-count-most c = search tests

pub returns-else-from-count : goal.returns-else-from-count
unfolding stop_behind
returns-else-from-count c =
    elim c.else-from-count.branch [
      | else-from-count-via-then-from-count+else-count-most w ↦ (sym (pick_true _ _ _ (lt-ltb _ _ w.if-from-count.true) ∙ pick_false _ _ _ (le-ltb _ _ w.if-count-most.false)), omega arith, λ h. h)
      | else-from-count-via-else-from-count w ↦ (sym (pick_false _ _ _ (le-ltb _ _ w.if-from-count.false)), omega arith, λ h. h)
    ]
