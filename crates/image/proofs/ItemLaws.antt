-- Runs of items: in two parts as whole, of records alone as the records' own; and every bench that they can make is valid.
use Rattle.std.specs.Prelude.{true, List, [], ◌∷◌, ◌++◌, ◌≡◌, refl, eqb, drop}
use Rattle.std.proofs.Common.{⊎_elim, ap, ◌∙◌, eqb-true}
use Rattle.base.specs.PickLaws.{either_way}
use Rattle.records.specs.Events.{Record}
use Rattle.bench.specs.declared.Bench.{Bench}
use Rattle.bench.specs.declared.Outcome.{Outcome}
use Rattle.bench.specs.Runs.{after_all, outcomes}
use Rattle.bench.specs.Seats.{power_up}
use Rattle.bench.specs.Steps.{outcome}
use Rattle.bench.specs.Valid.{valid}
use Rattle.bench.proofs.ValidLaws as bench
use Rattle.image.specs.declared.Restored.{Restored}
use Rattle.image.specs.Items.{Item, gives, restores, item_outcome, after_items, item_outcomes, given}
use Rattle.image.specs.Refusals.{refusal, restored}
use Rattle.image.proofs.RestoredLaws.{taken_of, restored_taken, restored_left, restored_valid}

pub items_parts : (b : Bench) (is js : List Item) → after_items b (is ++ js) ≡ after_items (after_items b is) js
items_parts b [] js = refl
items_parts b (i ∷ is) js = items_parts (item_outcome b i).bench is js

pub outcomes_parts : (b : Bench) (is js : List Item) → item_outcomes b (is ++ js) ≡ item_outcomes b is ++ item_outcomes (after_items b is) js
outcomes_parts b [] js = refl
outcomes_parts b (i ∷ is) js = ap (λ (l : List Outcome). item_outcome b i ∷ l) (outcomes_parts (item_outcome b i).bench is js)

-- of records alone
pub given_after : (b : Bench) (rs : List Record) → after_items b (given rs) ≡ after_all b rs
given_after b [] = refl
given_after b (r ∷ rs) = given_after (outcome b r).bench rs

pub given_outcomes : (b : Bench) (rs : List Record) → item_outcomes b (given rs) ≡ outcomes b rs
given_outcomes b [] = refl
given_outcomes b (r ∷ rs) = ap (λ (l : List Outcome). outcome b r ∷ l) (given_outcomes (outcome b r).bench rs)

-- a restore leaves a valid bench: the one it read, or the one it met
pub restored_kept : (b : Bench) (p : List _) → valid b ≡ true → valid (restored b p).bench ≡ true
restored_kept b p before =
    ⊎_elim
    (λ (none : eqb (refusal p) 0 ≡ true).
    ap (λ (r : Restored). valid r.bench) (restored_taken b p (eqb-true _ _ none)) ∙ restored_valid p (taken_of p (eqb-true _ _ none)))
    (λ some. ap (λ (r : Restored). valid r.bench) (restored_left b p some) ∙ before)
    (either_way (eqb (refusal p) 0))

pub item_kept : (b : Bench) (i : Item) → valid b ≡ true → valid (item_outcome b i).bench ≡ true
item_kept b (gives r) before = bench.kept b r before
item_kept b (restores l at) before = restored_kept b (drop at l) before

pub items_kept : (b : Bench) (is : List Item) → valid b ≡ true → valid (after_items b is) ≡ true
items_kept b [] before = before
items_kept b (i ∷ is) before = items_kept (item_outcome b i).bench is (item_kept b i before)

pub reached_valid : (is : List Item) → valid (after_items power_up is) ≡ true
reached_valid is = items_kept power_up is bench.power_up_lem
