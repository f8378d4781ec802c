use mathlib.Core.Path.{sym, ◌∙◌}
use Rattle.records.specs.TouchLaws.{touched_taken, touched_refused}
use borrow.Author.Rules.{rules}
use Rattle.records.proofs.parts.touch_seat.Goals as goal

pub returns-then-refusal-eq0 : goal.returns-then-refusal-eq0
returns-then-refusal-eq0 c = let a = c.args in
    simp (c.settle-settled.ensures, c.with_line-levels.ensures, c.line.ensures)
    (sym (touched_taken a.seat a.controller a.n a.e c.step-stepped.result c.step-stepped.ensures
    (sym c.refusal.ensures ∙ c.if-refusal-eq0.true)))

pub returns : goal.returns
returns c = let a = c.args in
    sym (touched_refused a.seat a.controller a.n a.e c.step-stepped.result c.step-stepped.ensures
    (λ none. c.if-refusal-eq0.false (c.refusal.ensures ∙ none)))
