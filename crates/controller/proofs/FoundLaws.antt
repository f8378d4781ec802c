-- What a call on the place that a search found, or on the line that is served, makes where there is none and where there is one.
use Rattle.std.specs.Prelude.{ℕ, Bool, true, false, ◌&&◌, ◌≡◌, refl, Option, Some, None, ltb}
use Rattle.std.specs.Option.{MatchOption, IsSomeAnd, is_some}
use Rattle.std.proofs.Common.{sym, ap, ap₂, subst, ◌∙◌, ⊎_elim}
use Rattle.base.specs.Pick.{pick}
use Rattle.base.specs.PickLaws.{pick_true, pick_false, either_way}
use Rattle.rank.specs.Sets.{has}
use Rattle.rank.specs.Rank.{line_at, above_every, first_place, place_found}
use Rattle.controller.specs.Turns.{found, granted, grantable, asking, hindering}
use Rattle.controller.specs.TurnLaws.{grantable_place_lem}
use Rattle.controller.specs.declared.Controller.{Controller}
use Rattle.controller.specs.Words.{ended, made_last, ended_turn, rotated_turn}
use Rattle.controller.specs.declared.Operation.{Operation}

-- who is grantable, by the sets that the code has
pub among : (c : Controller) (asks hinders : ℕ) → asks ≡ asking c → hinders ≡ hindering c.operation
    → first_place c.operation.first (λ n. has asks n && above_every c.operation.first (has hinders) n) ≡ first_place c.operation.first (grantable c)
among c asks hinders a h =
    ap₂ (λ (x y : ℕ). first_place c.operation.first (λ n. has x n && above_every c.operation.first (has y) n)) a h ∙ sym (grantable_place_lem c)

-- the line at a place that was found
module _ (first : ℕ) (gives : ℕ → ℕ → Type 0) (given : (k n : ℕ) → gives k n → n ≡ line_at first k) where
  line_some : (k : ℕ) (r : Option ℕ) → IsSomeAnd r (gives k) → r ≡ Some (line_at first k)
  line_some k None g = absurd g
  line_some k (Some n) g = ap Some (given k n g)

  pub line_found : (k : ℕ) (place : Option ℕ) → place ≡ place_found k → (r : Option ℕ)
      → MatchOption place (r ≡ None) (λ j. IsSomeAnd r (gives j))
      → r ≡ found first k
  unfolding place_found found
  line_found k place is r mapped =
      let Mapped = λ (p : Option ℕ). MatchOption p (r ≡ None) (λ j. IsSomeAnd r (gives j)) in
      ⊎_elim
      (λ (yes : ltb k 8 ≡ true). line_some k r (subst Mapped (is ∙ pick_true _ _ _ yes) mapped) ∙ sym (pick_true _ _ _ yes))
      (λ (no : ltb k 8 ≡ false). subst Mapped (is ∙ pick_false _ _ _ no) mapped ∙ sym (pick_false _ _ _ no))
      (either_way (ltb k 8))

-- and of the place that an acknowledge takes
module _ (c : Controller) (gives : ℕ → ℕ → Type 0) (given : (k n : ℕ) → gives k n → n ≡ line_at c.operation.first k) where
  pub granted_found : (asks hinders : ℕ) → asks ≡ asking c → hinders ≡ hindering c.operation → (place : Option ℕ)
      → place ≡ place_found (first_place c.operation.first (λ n. has asks n && above_every c.operation.first (has hinders) n))
      → (r : Option ℕ) → MatchOption place (r ≡ None) (λ j. IsSomeAnd r (gives j))
      → r ≡ granted c
  unfolding granted
  granted_found asks hinders a h place is r mapped =
      line_found c.operation.first gives given (first_place c.operation.first (grantable c)) place (is ∙ ap place_found (among c asks hinders a h)) r mapped

-- a place is found exactly if it is one of the eight
pub is_found : (k : ℕ) → is_some (place_found k) ≡ ltb k 8
unfolding place_found pick
is_found k = of (ltb k 8)
  where
    of : (b : Bool) → is_some (pick b (Some k) None) ≡ b
    of true = refl
    of false = refl

-- "none, nothing changes", and else what becomes of the line
module _ (o : Operation) (r : Operation) (gives : ℕ → Type 0) where
  pub ended_found : ((n : ℕ) → gives n → r ≡ ended o n) → (turn : Option ℕ) → MatchOption turn (r ≡ o) gives → r ≡ ended_turn o turn
  ended_found given None m = m
  ended_found given (Some n) m = given n m

  pub rotated_found : ((n : ℕ) → gives n → r ≡ made_last (ended o n) n) → (turn : Option ℕ) → MatchOption turn (r ≡ o) gives → r ≡ rotated_turn o turn
  rotated_found given None m = m
  rotated_found given (Some n) m = given n m
