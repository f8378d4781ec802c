use Prim.Native.Nat.{◌≤◌}
use mathlib.Core.Path.{◌≡◌}
use Rattle.page.specs.Pages.{put}
use Rattle.timeline.specs.Variables.{each}
use Rattle.timeline.specs.Dump.{line_head}
use Rattle.timeline.proofs.heads.line_heads.Given as goal

abbrev pub invariant-loop-n : goal.invariant-loop-n
invariant-loop-n l = (l.n ≤ 8) × (l.heads ≡ put l.initial.heads (each l.n line_head))
