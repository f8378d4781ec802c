-- Demand 2: whatever meets the step's contract gives, for every run, the answers, benches and outputs of the definitions.
use Rattle.std.specs.Prelude.{ℕ, suc, List, [], ◌∷◌, ◌++◌, ◌≡◌}
use Rattle.records.specs.Events.{Record}
use Rattle.bench.specs.declared.Bench.{Bench}
use Rattle.bench.specs.declared.Outcome.{Outcome}
use Rattle.bench.specs.Runs.{after_all, outcomes}
use Rattle.bench.specs.Steps.{outcome}
use Rattle.text.specs.Line.{line}
use Rattle.listing.specs.Run.{listing}
use Rattle.demands.specs.Contracts.{Ensured}

-- a program's step: what it makes of a bench and a record
abbrev pub Step : Type 0
Step = Bench → Record → Outcome

-- it meets the contract of the step, for every bench and every record
abbrev pub Meets : Step → Type 0
Meets f = (b : Bench) (r : Record) → Ensured b r (f b r)

-- what it gives over a run, event by event, each on the bench that the one before left
abbrev pub run : Step → Bench → List Record → List Outcome
run f b [] = []
run f b (r ∷ rs) = f b r ∷ run f (f b r).bench rs

-- and the bench in the end
abbrev pub ends : Step → Bench → List Record → Bench
ends f b [] = b
ends f b (r ∷ rs) = ends f (f b r).bench rs

-- a step of which no more is asked than this gives, over every run, what the definitions give
abbrev pub Suffices : (Step → Type 0) → Type 0
Suffices meets = (f : Step) → meets f → (b : Bench) (rs : List Record) → (run f b rs ≡ outcomes b rs) × (ends f b rs ≡ after_all b rs)

-- The tender: each event's answer, the bench after it and the interrupt output equal those that document 01 condenses. Ticket 5: "Document 01's
-- arrival rule and demand 2 read so from now on.", and so does `received` of the room receiver.
-- Ticket 7: "Demand 2 includes this.", and so do `after_write`, `after_arrival`, `after_levels` and `after_time` of the room channel
abbrev pub Demand2 : Type 0
Demand2 = Suffices Meets

-- the lines that such a step gives, of which the first has number n
abbrev pub lists : Step → Bench → ℕ → List Record → List ℕ
lists f b n [] = []
lists f b n (r ∷ rs) = line n (f b r).answer (f b r).output ++ lists f (f b r).bench (suc n) rs

-- and its listing is the definition's, for every length
abbrev pub Demand2Listed : Type 0
Demand2Listed = (f : Step) → Meets f → (b : Bench) (n : ℕ) (rs : List Record) → lists f b n rs ≡ listing b n rs
