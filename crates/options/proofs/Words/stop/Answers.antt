use mathlib.Core.Path.{ap, ◌∙◌}
use native.Mathlib.Omega.{arith}
use Rattle.std.specs.Prelude.{Option}
use Rattle.options.specs.declared.Moment.{Moment}
use Rattle.options.specs.Saves.{stop_by, stop_of}
use Rattle.options.proofs.Words.stop.Goals as goal

pub returns-in-Some : goal.returns-in-Some
unfolding stop_of
returns-in-Some c = let a = c.args in
    (c.stop_at.ensures.0 ∙ ap (λ (m : Option Moment). stop_by m a.from a.most) c.in-Some.ensures, c.stop_at.ensures.1, c.stop_at.ensures.2)

pub returns-in-None : goal.returns-in-None
unfolding stop_of
returns-in-None c = let a = c.args in (ap (λ (m : Option Moment). stop_by m a.from a.most) c.in-None.ensures, omega arith, λ h. h)
