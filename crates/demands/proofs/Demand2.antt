-- Demand 2 holds.
use Prim.Native.Nat.{ℕ, suc}
use mathlib.Core.List.{List, [], ◌∷◌, ◌++◌}
use mathlib.Core.Path.{◌≡◌, refl, ap, ◌∙◌}
use Rattle.records.specs.Events.{Record}
use Rattle.bench.specs.declared.Bench.{Bench}
use Rattle.bench.specs.declared.Outcome.{Outcome}
use Rattle.bench.specs.Runs.{after_all, outcomes}
use Rattle.bench.specs.Steps.{outcome}
use Rattle.text.specs.Line.{line}
use Rattle.listing.specs.Run.{listing}
use Rattle.demands.specs.Demand2.{Step, Meets, run, ends, lists, Demand2, Demand2Listed}
use Rattle.demands.proofs.Contracts.{step_says}

-- what meets is the definition's outcome
pub met : (f : Step) → Meets f → (b : Bench) (r : Record) → f b r ≡ outcome b r
met f meets b r = (step_says b r (f b r)).0 (meets b r)

-- and the definition meets
pub outcome_meets : Meets outcome
outcome_meets b r = (step_says b r (outcome b r)).1 refl

module _ (f : Step) (meets : Meets f) where
  runs : (b : Bench) (rs : List Record) → run f b rs ≡ outcomes b rs
  runs b [] = refl
  runs b (r ∷ rs) =
      ap (λ (o : Outcome). o ∷ run f o.bench rs) (met f meets b r) ∙ ap (λ (l : List Outcome). outcome b r ∷ l) (runs (outcome b r).bench rs)

  ended : (b : Bench) (rs : List Record) → ends f b rs ≡ after_all b rs
  ended b [] = refl
  ended b (r ∷ rs) = ap (λ (o : Outcome). ends f o.bench rs) (met f meets b r) ∙ ended (outcome b r).bench rs

pub demand_2 : Demand2
demand_2 f meets b rs = (runs f meets b rs, ended f meets b rs)

pub demand_2_listed : Demand2Listed
unfolding listing
demand_2_listed f meets b n [] = refl
demand_2_listed f meets b n (r ∷ rs) =
    ap (λ (o : Outcome). line n o.answer o.output ++ lists f o.bench (suc n) rs) (met f meets b r)
    ∙ ap (λ (l : List ℕ). line n (outcome b r).answer (outcome b r).output ++ l) (demand_2_listed f meets (outcome b r).bench (suc n) rs)
