-- Demand 2 holds over items.
use mathlib.Core.List.{List, [], ◌∷◌}
use mathlib.Core.Path.{◌≡◌, refl, ap, ◌∙◌}
use Rattle.bench.specs.declared.Bench.{Bench}
use Rattle.bench.specs.declared.Outcome.{Outcome}
use Rattle.bench.specs.Steps.{shown}
use Rattle.image.specs.declared.Restored.{Restored}
use Rattle.image.specs.Items.{Item, gives, restores, item_outcome, after_items, item_outcomes}
use Rattle.demands.specs.Demand2.{Step, Meets}
use Rattle.demands.specs.Demand2Items.{Restore, MeetsRestore, item_by, run_items, ends_items, Demand2Items}
use Rattle.demands.proofs.Demand2.{met}

module _ (f : Step) (g : Restore) (steps : Meets f) (reads : MeetsRestore g) where
  each : (b : Bench) (i : Item) → item_by f g b i ≡ item_outcome b i
  each b (gives r) = met f steps b r
  each b (restores l at) = ap (λ (t : Restored). shown t.bench t.answer) (reads b l at)

  runs : (b : Bench) (is : List Item) → run_items f g b is ≡ item_outcomes b is
  runs b [] = refl
  runs b (i ∷ is) =
      ap (λ (o : Outcome). o ∷ run_items f g o.bench is) (each b i) ∙ ap (λ (l : List Outcome). item_outcome b i ∷ l) (runs (item_outcome b i).bench is)

  ended : (b : Bench) (is : List Item) → ends_items f g b is ≡ after_items b is
  ended b [] = refl
  ended b (i ∷ is) = ap (λ (o : Outcome). ends_items f g o.bench is) (each b i) ∙ ended (item_outcome b i).bench is

pub demand_2_items : Demand2Items
demand_2_items f g steps reads b is = (runs f g steps reads b is, ended f g steps reads b is)
