use Prim.Native.Nat.{◌≤◌}
use mathlib.Core.Bool.{false}
use mathlib.Core.Path.{◌≡◌, ap, ◌∙◌}
use native.Mathlib.Omega.{arith}
use lib.ListN.{length}
use Rattle.lesson.proofs.Commenting.{nearer, reached_from}
use Rattle.lesson.specs.Comments.{in_text, place_after, reached}
use Rattle.lesson.proofs.comments.behind.Goals as goal

pub returns : goal.returns
unfolding place_after
returns c = let a = c.args in
    let start : c.min-start.result ≡ in_text a.text.now a.from = c.min-start.ensures ∙ nearer a.text.now a.from in
    let inside : c.min-start.result ≤ length a.text.now = grind arith in (
      reached_from a.text.now c.min-start.result inside a.digits c.reach.result c.reach.ensures.0 ∙ ap (reached false a.digits a.text.now) start,
      omega (arith, c.reach.ensures.1),
    )
