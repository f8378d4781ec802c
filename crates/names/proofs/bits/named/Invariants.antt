use Rattle.std.proofs.Common.{◌≡◌, ◌≤◌, length, drop}
use Rattle.page.specs.Pieces.{with}
use Rattle.names.specs.Words.{names_from}
use Rattle.names.proofs.bits.named.Given as goal

abbrev pub invariant-loop-k : goal.invariant-loop-k
invariant-loop-k l =
    (l.k ≤ length l.names)
    × (with l.said (names_from l.k (drop l.k l.names) l.byte) ≡ with l.initial.said (names_from 0 l.names l.byte))
