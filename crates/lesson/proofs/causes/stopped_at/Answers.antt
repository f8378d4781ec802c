use Rattle.lesson.proofs.Stops.{stops_alien, stops_half, stops_short}
use Rattle.lesson.specs.Cause.{alien}
use mathlib.Core.Path.{sym, ap, ◌∙◌}
use Rattle.lesson.proofs.causes.stopped_at.Goals as goal

pub returns-then-is_alien : goal.returns-then-is_alien
returns-then-is_alien c = stops_alien c.args.text.now c.args.at (sym (c.is_alien.ensures ∙ ap alien c.character_at.ensures) ∙ c.if-is_alien.true)

pub returns-then-reading-eq1 : goal.returns-then-reading-eq1
returns-then-reading-eq1 c = stops_half c.args.text.now c.args.at (sym (c.is_alien.ensures ∙ ap alien c.character_at.ensures) ∙ c.if-is_alien.false) _ c.begun_behind-behind.ensures.0 c.if-reading-eq1.true

pub returns : goal.returns
returns c = stops_short c.args.text.now c.args.at (sym (c.is_alien.ensures ∙ ap alien c.character_at.ensures) ∙ c.if-is_alien.false) _ _ c.begun_behind-behind.ensures.0 c.begun_behind-behind.ensures.1 c.if-reading-eq1.false
