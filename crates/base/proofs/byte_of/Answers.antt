use mathlib.Core.Bool.{Bool}
use mathlib.Core.List.{[], ◌∷◌}
use mathlib.Core.Path.{◌≡◌}
use Prim.Native.Nat.{◌+◌, ◌*◌}
use native.Mathlib.Omega.{arith}
use Rattle.base.specs.Bits.{bits}
use borrow.Author.Rules.{rules}
use Rattle.base.proofs.byte_of.Goals as goal

-- eight bits are four, and sixteen times the next four
halves : (b0 b1 b2 b3 b4 b5 b6 b7 : Bool)
    → bits (b0 ∷ b1 ∷ b2 ∷ b3 ∷ []) + 16 * bits (b4 ∷ b5 ∷ b6 ∷ b7 ∷ []) ≡ bits (b0 ∷ b1 ∷ b2 ∷ b3 ∷ b4 ∷ b5 ∷ b6 ∷ b7 ∷ [])
unfolding bits
halves b0 b1 b2 b3 b4 b5 b6 b7 = omega arith

pub returns : goal.returns
returns c = simp (c.nibble-2.ensures.0, c.nibble.ensures.0) (halves _ _ _ _ _ _ _ _)
