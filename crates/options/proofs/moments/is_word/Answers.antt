use mathlib.Core.Bool.{◌&&◌, Bool}
use mathlib.Core.List.{List, [], ◌∷◌}
use mathlib.Core.Path.{◌≡◌, refl, ap, ◌∙◌}
use Prim.Native.Nat.{ℕ}
use lib.Dec.{eqb}
use lib.Pointwise.{pointwise}
use Rattle.options.specs.Moments.{same_bytes}
use Rattle.options.proofs.moments.is_word.Goals as goal

-- the library compares slices element by element, as the definition does
compared : (word other : List ℕ) → pointwise eqb word other ≡ same_bytes word other
unfolding same_bytes
compared [] [] = refl
compared [] (b ∷ other) = refl
compared (a ∷ word) [] = refl
compared (a ∷ word) (b ∷ other) = ap (λ (rest : Bool). eqb a b && rest) (compared word other)

pub returns : goal.returns
returns c = c.eq.ensures ∙ compared c.args.word.now c.args.text.now
