-- What each step of a walk keeps, the whole walk keeps.
use Rattle.std.proofs.Common.{List, [], ◌∷◌, subst}
use Rattle.std.specs.List.{FoldsTo}

pub folds_keep : {P A : Type 0} (R : P → A → P → Type 0) (K : P → Type 0) → ((p : P) (x : A) (q : P) → R p x q → K p → K q)
    → (p : P) (xs : List A) (q : P) → FoldsTo R p xs q → K p → K q
folds_keep R K step p [] q e k = subst K e k
folds_keep R K step p (x ∷ xs) q f k = folds_keep R K step f.0 xs q f.2 (step p x f.0 f.1 k)
