use mathlib.Core.Path.{◌∙◌}
use Rattle.base.specs.PickLaws.{pick_true, pick_false}
use borrow.Author.Tests.{eq-eqb, ne_eqb}
use native.Mathlib.Omega.{arith}
use Rattle.lesson.specs.Comments.{comment_from, comment_at}
use Rattle.lesson.proofs.Commenting.{nearer}
use Rattle.lesson.proofs.comments.comment_at.Goals as goal

pub returns-then-character_at-eq35 : goal.returns-then-character_at-eq35
unfolding comment_at comment_from
returns-then-character_at-eq35 c = (
  simp (← (c.min.ensures ∙ nearer c.args.text.now c.args.at), ← c.run_end-from.ensures.0, ← c.character_at.ensures, eq-eqb _ _ c.if-character_at-eq35.true, ← c.run_end-end.ensures.0, pick_true),
  c.run_end-end.ensures.1,
  c.run_end-end.ensures.2,
)

pub returns : goal.returns
unfolding comment_at comment_from
returns c = (
  simp (← (c.min.ensures ∙ nearer c.args.text.now c.args.at), ← c.run_end-from.ensures.0, ← c.character_at.ensures, ne_eqb _ _ c.if-character_at-eq35.false, pick_false),
  omega arith,
  c.run_end-from.ensures.2,
)
