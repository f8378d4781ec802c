use Rattle.lesson.proofs.Stops.{found_marked, found_wide, found_stopped}
use mathlib.Core.Path.{sym, ◌∙◌}
use Rattle.lesson.proofs.causes.find.Goals as goal

pub returns-then-is_marked : goal.returns-then-is_marked
returns-then-is_marked c = found_marked _ _ (sym c.is_marked.ensures ∙ c.if-is_marked.true)

pub returns-then-is_wide : goal.returns-then-is_wide
returns-then-is_wide c = found_wide _ _ (sym c.is_marked.ensures ∙ c.if-is_marked.false) (sym c.is_wide.ensures ∙ c.if-is_wide.true)

pub returns : goal.returns
returns c = c.stopped_at.ensures ∙ found_stopped _ _ (sym c.is_marked.ensures ∙ c.if-is_marked.false) (sym c.is_wide.ensures ∙ c.if-is_wide.false)
