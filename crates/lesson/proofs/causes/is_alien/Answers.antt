use Rattle.std.specs.Option.{is_some}
use Rattle.lesson.proofs.Stops.{alien_by}
use mathlib.Core.Path.{sym, ap, ◌∙◌}
use Rattle.lesson.proofs.causes.is_alien.Goals as goal

pub returns : goal.returns
returns c = rw c.is_apart.ensures (alien_by c.args.c c.is_none.result (ap is_some (sym c.digit.ensures.0) ∙ c.is_none.ensures))
