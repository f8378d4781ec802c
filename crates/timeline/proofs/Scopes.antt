-- The variables of a scope, where it is known whose it is; and one scope more.
use Prim.Native.Nat.{ℕ, ◌+◌}
use mathlib.Core.Bool.{Bool, true, false}
use mathlib.Core.List.{List, [], ◌∷◌, ◌++◌, append_assoc}
use mathlib.Core.Path.{◌≡◌, refl, sym, ◌∙◌}
use native.Mathlib.Numerals.{add-one}
use Rattle.base.specs.Bits.{bit}
use Rattle.base.specs.PickLaws.{pick_true, pick_false}
use Rattle.timeline.specs.Variables.{Variable, each, of_seat, seat_variables}
use Rattle.timeline.specs.Dump.{declarations, told}
use Rattle.sight.specs.declared.Sight.{Sight}

module _ (used n : ℕ) {test : Bool} (tested : test ≡ bit n used) where
  pub in_use : test ≡ true → seat_variables used n ≡ of_seat n
  unfolding seat_variables
  in_use holds = pick_true _ _ _ (sym tested ∙ holds)

  pub not_in_use : test ≡ false → seat_variables used n ≡ []
  unfolding seat_variables
  not_in_use fails = pick_false _ _ _ (sym tested ∙ fails)

pub each_next : {A : Type 0} (k : ℕ) (f : ℕ → List A) → each (k + 1) f ≡ each k f ++ f k
unfolding each
each_next k f = rw (add-one k)

pub told_append : (all : Bool) (before now : Sight) (vs ws : List Variable)
    → told all before now (vs ++ ws) ≡ told all before now vs ++ told all before now ws
unfolding told
told_append all before now [] ws = refl
told_append all before now (v ∷ vs) ws = rw (told_append all before now vs ws, append_assoc)

pub declared_append : (vs ws : List Variable) → declarations (vs ++ ws) ≡ declarations vs ++ declarations ws
unfolding declarations
declared_append [] ws = refl
declared_append (v ∷ vs) ws = rw (declared_append vs ws, append_assoc)
