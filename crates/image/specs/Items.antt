-- Runs in which restores stand among the records.
use Rattle.std.specs.Prelude.{ℕ, List, [], ◌∷◌, drop}
use Rattle.records.specs.Events.{Record}
use Rattle.bench.specs.declared.Bench.{Bench}
use Rattle.bench.specs.declared.Outcome.{Outcome}
use Rattle.bench.specs.Steps.{outcome, shown}
use Rattle.image.specs.Refusals.{restored}

-- ticket 2: "Lessons end in mid-upload.": what a lesson is made of then. An item is a record, or a restore from the bytes of a lent slice at a
-- named place
pub data Item : Type 0 where
  gives : Record → Item
  restores : List ℕ → ℕ → Item

-- what comes of it; of a restore the answer, and the output of the bench that it leaves
abbrev pub item_outcome : Bench → Item → Outcome
item_outcome b (gives r) = outcome b r
item_outcome b (restores l at) = shown (restored b (drop at l)).bench (restored b (drop at l)).answer

-- the bench after these items, one after the other
abbrev pub after_items : Bench → List Item → Bench
after_items b [] = b
after_items b (i ∷ is) = after_items (item_outcome b i).bench is

-- the outcome of each of them
abbrev pub item_outcomes : Bench → List Item → List Outcome
item_outcomes b [] = []
item_outcomes b (i ∷ is) = item_outcome b i ∷ item_outcomes (item_outcome b i).bench is

-- records are items
abbrev pub given : List Record → List Item
given [] = []
given (r ∷ rs) = gives r ∷ given rs
