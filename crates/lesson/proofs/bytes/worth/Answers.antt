use Rattle.base.specs.PickLaws.{pick_true, pick_false}
use Rattle.lesson.proofs.bytes.worth.Goals as goal

pub returns-then-comment : goal.returns-then-comment
returns-then-comment c = (simp (c.if-comment.true, pick_true), tt)

pub returns-else-comment : goal.returns-else-comment
returns-else-comment c = (simp (c.if-comment.false, pick_false) c.digit.ensures.0, c.digit.ensures.1)
