use Prim.Native.Nat.{◌≤◌}
use mathlib.Core.Path.{◌≡◌}
use Rattle.page.specs.Pages.{put}
use Rattle.timeline.specs.Variables.{each, scope_count, scope_variables}
use Rattle.timeline.specs.Dump.{told}
use Rattle.timeline.proofs.steps.Change+Sight.scopes.Given as goal

abbrev pub invariant-loop-k : goal.invariant-loop-k
invariant-loop-k l = (l.k ≤ scope_count) × (l.told ≡ put l.initial.told (told l.self.all l.self.was l.self.is (each l.k (scope_variables l.used))))
