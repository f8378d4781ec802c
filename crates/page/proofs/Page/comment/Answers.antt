use Rattle.base.specs.PickLaws.{pick_true, pick_false}
use Rattle.page.specs.Notes.{commented}
use Rattle.page.proofs.Page.comment.Goals as goal

pub returns-then-is_empty : goal.returns-then-is_empty
unfolding commented
returns-then-is_empty c = simp (← c.is_empty.ensures, c.if-is_empty.true, pick_true)

pub returns : goal.returns
unfolding commented
returns c = simp (← c.note.ensures, ← c.new_line.ensures, ← c.is_empty.ensures, c.if-is_empty.false, pick_false)
