use Prim.Native.Nat.{ℕ, ◌≤◌}
use mathlib.Core.List.{List}
use mathlib.Core.Path.{◌≡◌, sym, ap, ◌∙◌}
use native.Mathlib.Omega.{arith}
use lib.ListN.{length}
use Rattle.page.specs.Pages.{put}
use Rattle.page.specs.PageLaws.{put_append, put_none}
use Rattle.timeline.specs.Variables.{each, scope_count, scope_variables}
use Rattle.timeline.specs.Dump.{told}
use Rattle.timeline.proofs.Behind.{in_one, put_said}
use Rattle.timeline.proofs.Scopes.{each_next, told_append}
use Rattle.timeline.proofs.Lengths.{told_length}
use Rattle.timeline.proofs.steps.Change+Sight.scopes.Goals as goal

pub loop-k-init : goal.loop-k-init
unfolding each told
loop-k-init c = (omega arith, sym (put_none _))

pub loop-k-preserved : goal.loop-k-preserved
loop-k-preserved c = let a = c.args in
    let words : List ℕ = told a.self.all a.self.was a.self.is (scope_variables a.used c.loop-k.k) in
    let few : length words ≤ 68 = omega (arith, told_length a.self.all a.self.was a.self.is a.used c.loop-k.k (omega arith)) in
    let added : c.add-told.result ≡ put c.loop-k.told words = c.add-told.ensures ∙ put_said _ words c.scope.ensures few in (
      omega arith,
      rw (each_next c.loop-k.k (scope_variables a.used), told_append a.self.all a.self.was a.self.is (each c.loop-k.k (scope_variables a.used)))
          (in_one put put_append c.loop-k.invariant.1 added),
    )
