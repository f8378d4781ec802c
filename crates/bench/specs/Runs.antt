-- Runs of records: the bench after them; and what of a run concerns one seat.
use Rattle.std.specs.Prelude.{ℕ, List, [], ◌∷◌, ◌++◌, eqb, Ok, Err}
use Rattle.base.specs.Pick.{pick}
use Rattle.seat.specs.Acts.{Act, event, resets}
use Rattle.records.specs.declared.Event.TheVariants.{OfSeat, MasterReset, ReadController, WriteController, Acknowledge}
use Rattle.records.specs.Events.{Record, decoded, Decoded}
use Rattle.bench.specs.declared.Bench.{Bench}
use Rattle.bench.specs.declared.Outcome.{Outcome}
use Rattle.bench.specs.Seats.{chair}
use Rattle.bench.specs.Steps.{outcome}

-- the bench after these records, one after the other
abbrev pub after_all : Bench → List Record → Bench
after_all b [] = b
after_all b (r ∷ rs) = after_all (outcome b r).bench rs

-- the outcome of each of them
abbrev pub outcomes : Bench → List Record → List Outcome
outcomes b [] = []
outcomes b (r ∷ rs) = outcome b r ∷ outcomes (outcome b r).bench rs

-- what a decoded record does to seat n: nothing, where it is another seat's, the controller's, or refused
unfoldable pub own : ℕ → Decoded → List Act
own n (Ok (OfSeat m e)) = pick (eqb (chair m) n) (event e ∷ []) []
own n (Ok MasterReset) = resets ∷ []
own n (Ok (ReadController port)) = []
own n (Ok (WriteController port byte)) = []
own n (Ok Acknowledge) = []
own n (Err number) = []

-- seat n's own events among these records
abbrev pub own_all : ℕ → List Record → List Act
own_all n [] = []
own_all n (r ∷ rs) = own n (decoded r) ++ own_all n rs
