use mathlib.Core.Path.{ap}
use Rattle.base.specs.Pick.{pick}
use Rattle.page.specs.Notes.{commented}
use Rattle.page.specs.PageLaws.{joined_piece}
use Rattle.bench.specs.declared.Outcome.{Outcome}
use Rattle.account.specs.Told.{told}
use Rattle.account.proofs.telling.short.Goals as goal

pub returns : goal.returns
unfolding told commented pick
returns c = (ap (λ (o : Outcome). o.bench) c.step_short-stepped.ensures, simp (c.end.ensures, c.at_controller-all.ensures, c.join-2.ensures, c.join.ensures, c.cut.ensures, c.came-came.ensures, c.begun-head.ensures, c.step_short-stepped.ensures, joined_piece))
