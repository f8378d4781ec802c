use mathlib.Core.Path.{ap, ◌∙◌}
use Rattle.std.specs.Prelude.{Option}
use Rattle.options.specs.declared.Moment.{Moment}
use Rattle.options.specs.Saves.{due_by, due_of}
use Rattle.options.proofs.Words.due.Goals as goal

pub returns-in-Some : goal.returns-in-Some
unfolding due_of
returns-in-Some c = c.due_at.ensures ∙ ap (λ (m : Option Moment). due_by m c.args.now) c.in-Some.ensures

pub returns-in-None : goal.returns-in-None
unfolding due_of
returns-in-None c = ap (λ (m : Option Moment). due_by m c.args.now) c.in-None.ensures
