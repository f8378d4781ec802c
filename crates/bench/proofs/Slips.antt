-- Closed runs from power-up: what they show is false under the slips of must-fail/.
use Prim.Native.Nat.{ℕ}
use mathlib.Core.List.{List, [], ◌∷◌, map}
use mathlib.Core.Path.{◌≡◌, refl}
use Rattle.base.specs.Bits as base-bits
use Rattle.base.specs.Bits.{digit}
use Rattle.base.specs.Answers.{refusal_of, value_of}
use Rattle.records.specs.Events.{Record, whole}
use Rattle.records.proofs.Slips as records
use Rattle.bench.specs.Seats as seats
use Rattle.bench.specs.Refusals as refusals
use Rattle.bench.specs.Steps as steps
use Rattle.bench.specs.declared.Outcome.{Outcome}
use Rattle.bench.specs.Runs.{outcomes, after_all}
use Rattle.bench.specs.Tallies.{asked_of, handed}

-- the outcomes of some records from power-up; it opens what a run computes with
unfoldable pub run : List Record → List Outcome
unfolding records.run base-bits.bits seats.seat seats.with_seat seats.lines refusals.room_grounds refusals.grounds refusals.refusal steps.after steps.answer_to steps.outcome
run rs = outcomes seats.power_up rs

-- what each of them shows: its refusal number, its answer, and the output after it
abbrev numbers : List Record → List ℕ
numbers rs = map (λ o. refusal_of o.answer) (run rs)

abbrev answers : List Record → List ℕ
answers rs = map (λ o. value_of o.answer) (run rs)

abbrev outputs : List Record → List ℕ
outputs rs = map (λ o. digit o.output) (run rs)

-- "Eight seats, 0 to 7.": `chair_own`, `seat_runs`
seat_4_is_not_seat_0 : answers (whole 1 4 7 0x5A ∷ whole 0 4 7 0 ∷ whole 0 0 7 0 ∷ []) ≡ 0x000 ∷ 0x05A ∷ 0x000 ∷ []
unfolding run
seat_4_is_not_seat_0 = refl

-- `seat_answer`: seat 0 has a divisor, and what arrives at seat 4, which has none, is refused by 5; false too under `seat_4_sits_in_the_chair_of_seat_0_twin`
refused_by_its_own_divisor : numbers (whole 1 0 3 0x83 ∷ whole 1 0 0 0x0C ∷ whole 2 4 0 0x41 ∷ []) ≡ 0 ∷ 0 ∷ 5 ∷ []
unfolding run
refused_by_its_own_divisor = refl

-- "master reset of all eight seats": "000", `reset_answered`
master_reset_is_000 : answers (whole 5 0 0 0 ∷ []) ≡ 0x000 ∷ []
unfolding run
master_reset_is_000 = refl

-- `other_seat`: 41 arrives at seat 0, so one has arrived there, and none at seat 1
tallies_of_its_own : map (λ n. (handed (asked_of (after_all seats.power_up (whole 1 0 3 0x83 ∷ whole 1 0 0 0x0C ∷ whole 2 0 0 0x41 ∷ [])) n)).five.arrived) (0 ∷ 1 ∷ []) ≡ 1 ∷ 0 ∷ []
unfolding run asked_of handed
tallies_of_its_own = refl
