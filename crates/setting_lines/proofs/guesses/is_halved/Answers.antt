use borrow.Author.Tests.{eq-eqb, ne_eqb}
use Rattle.setting_lines.specs.Guess.{halved}
use Rattle.setting_lines.proofs.guesses.is_halved.Goals as goal

pub returns-then-front-eq-LONGEST_RATE : goal.returns-then-front-eq-LONGEST_RATE
unfolding halved
returns-then-front-eq-LONGEST_RATE c = simp (eq-eqb _ _ c.if-front-eq-LONGEST_RATE.true)

pub returns-else-front-eq-LONGEST_RATE : goal.returns-else-front-eq-LONGEST_RATE
unfolding halved
returns-else-front-eq-LONGEST_RATE c = simp (ne_eqb _ _ c.if-front-eq-LONGEST_RATE.false)
