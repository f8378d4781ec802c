use Rattle.std.proofs.Common.{ℕ, List}
use Rattle.std.specs.Borrow.{Bor}
use Rattle.std.specs.List.{FoldsTo}
use Rattle.bench_main.proofs.words.walk.Given as goal

abbrev pub invariant-loop-place : goal.invariant-loop-place
invariant-loop-place g l = (walked : List (ℕ × Bor (List ℕ))) × FoldsTo (λ t w r. goal.F-post g l.f t w.0 w.1 r) l.initial.made walked l.made
