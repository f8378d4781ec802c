use mathlib.Core.Path.{sym, ◌∙◌}
use native.Mathlib.Omega.{arith}
use borrow.Author.Tests.{eq-eqb, ne_eqb}
use Rattle.base.specs.PickLaws.{pick_true, pick_false}
use Rattle.options.specs.Words.{dashed}
use Rattle.options.proofs.reading.is_dashed.Goals as goal

pub returns-in-45 : goal.returns-in-45
unfolding dashed
returns-in-45 c = sym (pick_false _ _ _ (ne_eqb _ _ (λ e. omega arith)) ∙ eq-eqb _ _ (omega arith))

pub returns-in_default : goal.returns-in_default
unfolding dashed
returns-in_default c = sym (pick_true _ _ _ (eq-eqb _ _ (omega arith)))

pub returns-in_default-2 : goal.returns-in_default-2
unfolding dashed
returns-in_default-2 c = sym (pick_false _ _ _ (ne_eqb _ _ (λ e. omega arith)) ∙ ne_eqb _ _ (λ e. omega arith))
