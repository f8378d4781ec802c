use Prim.Native.Nat.{◌≤◌}
use mathlib.Core.Path.{◌≡◌}
use Rattle.page.specs.Pieces.{with}
use Rattle.timeline.specs.Dump.{bit_changes}
use Rattle.timeline.proofs.values.Change+u8.of_number.Given as goal

abbrev pub invariant-loop-k : goal.invariant-loop-k
invariant-loop-k l =
    (l.k ≤ l.width) × (with l.said (bit_changes l.self.all l.letter l.n l.k l.self.was l.self.is) ≡ with l.initial.said (bit_changes l.self.all l.letter l.n l.width l.self.was l.self.is))
