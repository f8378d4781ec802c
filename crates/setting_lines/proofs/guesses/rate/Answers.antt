use mathlib.Core.Path.{sym, ◌∙◌}
use native.Mathlib.Omega.{arith}
use Rattle.base.specs.PickLaws.{pick_true}
use Rattle.setting_lines.specs.Guess.{rate_guess}
use Rattle.setting_lines.proofs.Supposed.{guessed_10, guessed_whole}
use Rattle.setting_lines.proofs.guesses.rate.Goals as goal

pub returns-then-is_halved : goal.returns-then-is_halved
unfolding rate_guess
returns-then-is_halved c = sym (pick_true _ _ _ (sym c.is_halved.ensures ∙ c.if-is_halved.true))

pub returns-in-1-to-99999 : goal.returns-in-1-to-99999
returns-in-1-to-99999 c =
    guessed_whole c.args.front.now c.number.result (sym c.is_halved.ensures ∙ c.if-is_halved.false) c.number.ensures (omega arith) (omega arith)

pub returns-in_default : goal.returns-in_default
returns-in_default c = guessed_10 c.args.front.now c.number.result (sym c.is_halved.ensures ∙ c.if-is_halved.false) c.number.ensures (λ some few. omega arith)

pub returns-in_default-2 : goal.returns-in_default-2
returns-in_default-2 c = guessed_10 c.args.front.now c.number.result (sym c.is_halved.ensures ∙ c.if-is_halved.false) c.number.ensures (λ some few. omega arith)
