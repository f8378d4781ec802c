use mathlib.Core.Path.{sym, ap, ◌∙◌, ◌≡◌}
use mathlib.Core.Bool.{true, false}
use Rattle.std.specs.Option.{is_some}
use Rattle.base.specs.PickLaws.{pick_true, pick_false}
use borrow.Author.Tests.{eq-eqb, ne_eqb}
use Rattle.text.specs.HexLaws.{digit_found}
use Rattle.lesson.specs.Text.{is_digit}
use Rattle.lesson.specs.Fault.{after}
use Rattle.lesson.proofs.faults.Reading.after.Goals as goal

pub returns-then-is_commented : goal.returns-then-is_commented
unfolding after
returns-then-is_commented c = simp (← c.is_commented.ensures, c.if-is_commented.true, pick_true)

pub returns-then-is_some : goal.returns-then-is_some
unfolding after
returns-then-is_some c =
    let digit : is_digit c.args.c ≡ true = sym (c.is_some.ensures ∙ ap is_some c.digit.ensures.0 ∙ digit_found c.args.c) ∙ c.if-is_some.true in
    simp (← c.is_commented.ensures, c.if-is_commented.false, digit, ← c.counted.ensures, pick_true, pick_false)

pub returns-then-c-eq10 : goal.returns-then-c-eq10
unfolding after
returns-then-c-eq10 c =
    let none : is_digit c.args.c ≡ false = sym (c.is_some.ensures ∙ ap is_some c.digit.ensures.0 ∙ digit_found c.args.c) ∙ c.if-is_some.false in
    simp (← c.is_commented.ensures, c.if-is_commented.false, none, eq-eqb _ _ c.if-c-eq10.true, pick_true, pick_false)

pub returns : goal.returns
unfolding after
returns c =
    let none : is_digit c.args.c ≡ false = sym (c.is_some.ensures ∙ ap is_some c.digit.ensures.0 ∙ digit_found c.args.c) ∙ c.if-is_some.false in
    simp (← c.is_commented.ensures, c.if-is_commented.false, none, ne_eqb _ _ c.if-c-eq10.false, pick_true, pick_false)
