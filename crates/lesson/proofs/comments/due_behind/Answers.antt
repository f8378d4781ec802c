use Rattle.std.specs.Option.{is_some}
use mathlib.Core.Path.{sym, ap, ◌∙◌}
use Rattle.lesson.proofs.Commenting.{due_same, due_less}
use Rattle.lesson.proofs.comments.due_behind.Goals as goal

pub returns-then-comment-is_none : goal.returns-then-comment-is_none
returns-then-comment-is_none c =
    due_same c.args.comment c.is_none.result _ _ (ap is_some (sym c.digit.ensures.0) ∙ c.is_none.ensures) c.if-comment-is_none.true

pub returns : goal.returns
returns c = due_less c.args.comment c.is_none.result _ _ (ap is_some (sym c.digit.ensures.0) ∙ c.is_none.ensures) c.if-comment-is_none.false
