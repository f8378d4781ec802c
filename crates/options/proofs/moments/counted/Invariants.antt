use Prim.Native.Nat.{◌≤◌}
use mathlib.Core.Path.{◌≡◌}
use lib.ListN.{drop}
use Rattle.options.specs.Moments.{number_from}
use Rattle.options.proofs.moments.counted.Given as goal

abbrev pub invariant-loop-c : goal.invariant-loop-c
invariant-loop-c l = (l.n ≤ 11529215046068469769) × (number_from 0 l.word ≡ number_from l.n (drop l.c-index l.word))
