use Prim.Native.Nat.{ℕ}
use mathlib.Core.List.{List, map}
use mathlib.Core.Path.{◌≡◌}
use lib.ListN.{drop}
use Rattle.status.specs.declared.Row.{Row}
use Rattle.status.specs.declared.standing.Standing.{Standing}
use Rattle.status.specs.Status.{first_cause}
use Rattle.status.specs.Table.{table, asked}
use Rattle.status.proofs.cause.Given as goal

-- the code that some rows name
abbrev pub named : ℕ → Standing → List Row → ℕ
named ier stood rows = first_cause (map (asked ier stood) rows)

-- no row before k is named: the first of those from k on is the first of all
abbrev pub invariant-loop-code : goal.invariant-loop-code
invariant-loop-code l = named l.settings.ier l.standing (drop l.code-index table) ≡ named l.settings.ier l.standing table
