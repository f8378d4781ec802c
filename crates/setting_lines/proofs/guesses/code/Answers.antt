use Rattle.base.specs.PickLaws.{tests, pick_true, pick_false}
use Rattle.setting_lines.specs.Guess.{code_by}
use Rattle.setting_lines.proofs.guesses.code.Goals as goal

pub returns-in-79 : goal.returns-in-79
unfolding code_by
returns-in-79 c = simp (c.in-79.is, pick_true, pick_false)

pub returns-in-69 : goal.returns-in-69
unfolding code_by
returns-in-69 c = simp (c.in-69.is, pick_true, pick_false)

pub returns-in-77 : goal.returns-in-77
unfolding code_by
returns-in-77 c = simp (c.in-77.is, pick_true, pick_false)

pub returns-in-83 : goal.returns-in-83
unfolding code_by
returns-in-83 c = simp (c.in-83.is, pick_true, pick_false)

pub returns-in_default : goal.returns-in_default
unfolding code_by
returns-in_default c = search tests
