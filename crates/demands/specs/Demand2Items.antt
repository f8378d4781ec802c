-- Demand 2 with restores among the records: whatever meets the contracts of the step and of the restore gives what the definitions give.
use Rattle.std.specs.Prelude.{ℕ, List, [], ◌∷◌, ◌≡◌, drop}
use Rattle.bench.specs.declared.Bench.{Bench}
use Rattle.bench.specs.declared.Outcome.{Outcome}
use Rattle.bench.specs.Steps.{shown}
use Rattle.image.specs.declared.Restored.{Restored}
use Rattle.image.specs.Items.{Item, gives, restores, after_items, item_outcomes}
use Rattle.image.specs.Refusals.{restored}
use Rattle.demands.specs.Demand2.{Step, Meets}

-- a program's restore: what it makes of a bench, a lent slice and a place
abbrev pub Restore : Type 0
Restore = Bench → List ℕ → ℕ → Restored

-- it meets the contract of `image::restore`, as `ContractsSay` has it, for every bench, every slice and every place
abbrev pub MeetsRestore : Restore → Type 0
MeetsRestore g = (b : Bench) (l : List ℕ) (at : ℕ) → g b l at ≡ restored b (drop at l)

-- what the two give for an item
abbrev pub item_by : Step → Restore → Bench → Item → Outcome
item_by f g b (gives r) = f b r
item_by f g b (restores l at) = shown (g b l at).bench (g b l at).answer

-- over a run, each on the bench that the one before left, and the bench in the end
abbrev pub run_items : Step → Restore → Bench → List Item → List Outcome
run_items f g b [] = []
run_items f g b (i ∷ is) = item_by f g b i ∷ run_items f g (item_by f g b i).bench is

abbrev pub ends_items : Step → Restore → Bench → List Item → Bench
ends_items f g b [] = b
ends_items f g b (i ∷ is) = ends_items f g (item_by f g b i).bench is

-- The tender: each event's answer, the bench after it and the interrupt output equal those that document 01 condenses; with restores in any
-- order among them
abbrev pub Demand2Items : Type 0
Demand2Items =
    (f : Step) (g : Restore) → Meets f → MeetsRestore g → (b : Bench) (is : List Item)
    → (run_items f g b is ≡ item_outcomes b is) × (ends_items f g b is ≡ after_items b is)
