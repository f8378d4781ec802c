use Rattle.std.proofs.Common.{[], ◌∷◌, ◌++◌}
use Rattle.std.proofs.lemmas.Fn.{FoldsTo-push}
use Rattle.bench_main.proofs.words.walk.Goals as goal

pub loop-place-preserved : goal.loop-place-preserved
loop-place-preserved g c =
    let before = c.loop-place.invariant in
    (before.0 ++ (_ ∷ []), FoldsTo-push _ _ before.0 _ _ _ before.1 c.f-made.ensures)
