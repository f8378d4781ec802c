use mathlib.Core.Path.{sym, ap, ◌∙◌, ◌≡◌}
use mathlib.Core.Bool.{true, false}
use Rattle.std.specs.Option.{is_some}
use Rattle.base.specs.PickLaws.{pick_true, pick_false}
use Rattle.text.specs.HexLaws.{digit_found}
use Rattle.lesson.specs.Text.{is_digit}
use Rattle.lesson.specs.Fault.{faulty}
use Rattle.lesson.proofs.faults.Reading.is_faulty.Goals as goal

pub returns-then-self : goal.returns-then-self
unfolding faulty
returns-then-self c = simp (c.if-self.true, pick_true)

pub returns-then-is_some : goal.returns-then-is_some
unfolding faulty
returns-then-is_some c =
    let digit : is_digit c.args.c ≡ true = sym (c.is_some.ensures ∙ ap is_some c.digit.ensures.0 ∙ digit_found c.args.c) ∙ c.if-is_some.true in
    simp (c.if-self.false, digit, pick_true, pick_false)

pub returns-then-is_apart : goal.returns-then-is_apart
unfolding faulty
returns-then-is_apart c =
    let none : is_digit c.args.c ≡ false = sym (c.is_some.ensures ∙ ap is_some c.digit.ensures.0 ∙ digit_found c.args.c) ∙ c.if-is_some.false in
    simp (c.if-self.false, none, ← c.is_apart.ensures, c.if-is_apart.true, pick_true, pick_false)

pub returns : goal.returns
unfolding faulty
returns c =
    let none : is_digit c.args.c ≡ false = sym (c.is_some.ensures ∙ ap is_some c.digit.ensures.0 ∙ digit_found c.args.c) ∙ c.if-is_some.false in
    simp (c.if-self.false, none, ← c.is_apart.ensures, c.if-is_apart.false, pick_true, pick_false)
