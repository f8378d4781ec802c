use Rattle.base.specs.PickLaws.{tests, pick_true, pick_false}
use Rattle.setting_lines.specs.Guess.{letter_by}
use Rattle.setting_lines.proofs.lines.letter.Goals as goal

pub returns-in-1 : goal.returns-in-1
unfolding letter_by
returns-in-1 c = simp (c.in-1.is, pick_true, pick_false)

pub returns-in-3 : goal.returns-in-3
unfolding letter_by
returns-in-3 c = simp (c.in-3.is, pick_true, pick_false)

pub returns-in-5 : goal.returns-in-5
unfolding letter_by
returns-in-5 c = simp (c.in-5.is, pick_true, pick_false)

pub returns-in-7 : goal.returns-in-7
unfolding letter_by
returns-in-7 c = simp (c.in-7.is, pick_true, pick_false)

pub returns-in_default : goal.returns-in_default
unfolding letter_by
returns-in_default c = search tests
