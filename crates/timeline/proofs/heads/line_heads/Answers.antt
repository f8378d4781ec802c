use Prim.Native.Nat.{ℕ}
use mathlib.Core.Path.{◌≡◌, sym, ap, ◌∙◌}
use native.Mathlib.Omega.{arith}
use Rattle.page.specs.Pages.{put}
use Rattle.page.specs.PageLaws.{put_append, put_none}
use Rattle.timeline.specs.Variables.{each}
use Rattle.timeline.specs.Dump.{line_head}
use Rattle.timeline.proofs.Behind.{in_one}
use Rattle.timeline.proofs.Scopes.{each_next}
use Rattle.timeline.proofs.heads.line_heads.Goals as goal

pub loop-n-init : goal.loop-n-init
unfolding each
loop-n-init c = (omega arith, sym (put_none _))

pub loop-n-preserved : goal.loop-n-preserved
loop-n-preserved c = (omega arith, rw (each_next c.loop-n.n line_head) (in_one put put_append c.loop-n.invariant.1 c.line_head-heads.ensures))
