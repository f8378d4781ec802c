use borrow.Author.Tests.{eq-eqb, ne_eqb}
use Rattle.base.specs.PickLaws.{pick_true, pick_false}
use Rattle.setting_lines.specs.Fields.{stop_text}
use Rattle.setting_lines.proofs.lines.stop.Goals as goal

pub returns-in-true-eq5 : goal.returns-in-true-eq5
unfolding stop_text
returns-in-true-eq5 c = simp (c.in-true-eq5.is-0, eq-eqb _ _ c.in-true-eq5.is-1, pick_true)

pub returns-in-true-default : goal.returns-in-true-default
unfolding stop_text
returns-in-true-default c = simp (c.in-true-default.is-0, ne_eqb _ _ c.in-true-default.is-1.1, pick_false)

pub returns-in-false-default : goal.returns-in-false-default
unfolding stop_text
returns-in-false-default c = simp c.in-false-default.is-0
