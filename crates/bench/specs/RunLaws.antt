-- Runs: in two parts as whole; and a seat after a run is the run of its own events.
use Rattle.std.specs.Prelude.{ℕ, List, [], ◌∷◌, ◌++◌, ◌≡◌, refl, length}
use Rattle.std.proofs.Common.{ap, sym, ◌∙◌}
use Rattle.seat.specs.declared.Seat.{Seat}
use Rattle.seat.specs.Acts.{acted_all}
use Rattle.seat.specs.ActLaws.{acted_parts}
use Rattle.records.specs.Events.{Record, decoded, seat_count}
use Rattle.bench.specs.declared.Bench.{Bench}
use Rattle.bench.specs.declared.Outcome.{Outcome}
use Rattle.bench.specs.Seats.{chair, seat}
use Rattle.bench.specs.Steps.{outcome}
use Rattle.bench.specs.Runs.{after_all, outcomes, own, own_all}
use Rattle.bench.specs.MeetLaws.{outcome_dealt}
use Rattle.bench.specs.FrameLaws.{as_many, seat_acts}

-- running a list in two parts is running it whole
pub after_parts : (b : Bench) (rs ss : List Record) → after_all b (rs ++ ss) ≡ after_all (after_all b rs) ss
after_parts b [] ss = refl
after_parts b (r ∷ rs) ss = after_parts (outcome b r).bench rs ss

pub outcomes_parts : (b : Bench) (rs ss : List Record) → outcomes b (rs ++ ss) ≡ outcomes b rs ++ outcomes (after_all b rs) ss
outcomes_parts b [] ss = refl
outcomes_parts b (r ∷ rs) ss = ap (λ (l : List Outcome). outcome b r ∷ l) (outcomes_parts (outcome b r).bench rs ss)

-- so each record is answered once, in order, by the bench after those before it
pub after_one : (b : Bench) (rs : List Record) (r : Record) → after_all b (rs ++ (r ∷ [])) ≡ (outcome (after_all b rs) r).bench
after_one b rs r = after_parts b rs (r ∷ [])

pub outcomes_one : (b : Bench) (rs : List Record) (r : Record) → outcomes b (rs ++ (r ∷ [])) ≡ outcomes b rs ++ (outcome (after_all b rs) r ∷ [])
outcomes_one b rs r = outcomes_parts b rs (r ∷ [])

pub all_kept : (b : Bench) (r : Record) → length (outcome b r).bench.seats ≡ length b.seats
all_kept b r = ap (λ (o : Outcome). length o.bench.seats) (outcome_dealt b r) ∙ as_many b (decoded r)

-- a seat after a run of records is that seat after its own events among them, whatever the others do
pub seat_runs : (b : Bench) → length b.seats ≡ seat_count → (n : ℕ) (rs : List Record)
    → seat (after_all b rs) n ≡ acted_all (seat b n) (own_all (chair n) rs)
seat_runs b all n [] = refl
seat_runs b all n (r ∷ rs) =
    seat_runs (outcome b r).bench (all_kept b r ∙ all) n rs
    ∙ ap (λ (s : Seat). acted_all s (own_all (chair n) rs))
    (ap (λ (o : Outcome). seat o.bench n) (outcome_dealt b r) ∙ seat_acts b all n (decoded r))
    ∙ sym (acted_parts (seat b n) (own (chair n) (decoded r)) (own_all (chair n) rs))
