use native.Mathlib.Omega.{arith}
use borrow.Author.Tests.{le-leb, le-ltb, lt-leb, lt-ltb}
use Rattle.base.specs.PickLaws.{pick_true, pick_false}
use Rattle.setting_lines.specs.Guess.{guessed}
use Rattle.setting_lines.proofs.Supposed.{behind_least}
use Rattle.setting_lines.proofs.guesses.guess_line.Goals as goal

pub returns-then-line-behind : goal.returns-then-line-behind
unfolding guessed
returns-then-line-behind c = simp (← c.behind_rate-behind.ensures, le-ltb _ _ c.if-line-behind.true, le-leb _ _ c.if-line-behind.true, pick_true, pick_false)

pub returns-then-front-gt-LONGEST_RATE : goal.returns-then-front-gt-LONGEST_RATE
unfolding guessed
returns-then-front-gt-LONGEST_RATE c = simp (← c.behind_rate-behind.ensures, lt-ltb _ _ c.if-front-gt-LONGEST_RATE.true, lt-leb _ _ c.if-front-gt-LONGEST_RATE.true, lt-ltb _ _ c.if-line-behind.false, lt-leb _ _ c.if-line-behind.false, pick_true, pick_false)

pub guess_at-requires : goal.guess_at-requires
guess_at-requires c = (omega arith, omega (arith, c.behind_rate-behind.ensures, behind_least c.args.line.now))

pub returns : goal.returns
unfolding guessed
returns c = simp (← c.guess_at.ensures, ← c.behind_rate-behind.ensures, le-ltb _ _ c.if-front-gt-LONGEST_RATE.false, le-leb _ _ c.if-front-gt-LONGEST_RATE.false, lt-ltb _ _ c.if-line-behind.false, lt-leb _ _ c.if-line-behind.false, pick_true, pick_false)
