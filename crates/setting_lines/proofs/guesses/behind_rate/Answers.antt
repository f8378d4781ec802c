use Rattle.setting_lines.proofs.Supposed.{ends_5, ends_other, ends_none}
use Rattle.setting_lines.proofs.guesses.behind_rate.Goals as goal

pub returns-in-Some : goal.returns-in-Some
returns-in-Some c = ends_5 c.args.line.now c.in-Some.c.now (rw c.in-Some.is at c.last.ensures.value) c.if-c-eq53.true

pub returns-in_default : goal.returns-in_default
returns-in_default c = ends_other c.args.line.now c.in-Some.c.now (rw c.in-Some.is at c.last.ensures.value) c.if-c-eq53.false

pub returns-in_default-2 : goal.returns-in_default-2
returns-in_default-2 c = ends_none c.args.line.now (rw c.in_default.is at c.last.ensures.value)
