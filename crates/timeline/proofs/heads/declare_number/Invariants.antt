use Prim.Native.Nat.{◌≤◌}
use mathlib.Core.Path.{◌≡◌}
use Rattle.page.specs.Pages.{put}
use Rattle.timeline.specs.Dump.{bit_declarations}
use Rattle.timeline.proofs.heads.declare_number.Given as goal

abbrev pub invariant-loop-k : goal.invariant-loop-k
invariant-loop-k l =
    (l.k ≤ l.width) × (put l.declared (bit_declarations l.letter l.word l.n l.k) ≡ put l.initial.declared (bit_declarations l.letter l.word l.n l.width))
