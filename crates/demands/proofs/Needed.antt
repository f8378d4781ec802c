-- Each statement with one part less is refuted by a closed run.
use Prim.Native.Nat.{ℕ, ◌+◌}
use mathlib.Core.Bool.{Bool, false, not}
use mathlib.Core.List.{List, [], ◌∷◌, ◌++◌}
use mathlib.Core.Path.{◌≡◌, refl, ap}
use mathlib.Core.Logic.{inr}
use native.Mathlib.Omega.{arith}
use lib.ListN.{get_or}
use Rattle.base.specs.Bits.{digit}
use Rattle.base.specs.declared.Answer.{Answer}
use Rattle.base.specs.declared.Answer.TheVariants.{Done}
use Rattle.base.specs.Answers.{value_of}
use Rattle.turn.proofs.Needed.{not_among}
use Rattle.records.specs.Events.{Record, whole}
use Rattle.bench.specs.declared.Bench.{Bench}
use Rattle.bench.specs.declared.Outcome.{Outcome}
use Rattle.bench.specs.Seats.{power_up}
use Rattle.bench.specs.Steps.{outcome}
use Rattle.bench.specs.Runs.{after_all}
use Rattle.bench.proofs.WiredLaws.{wired_power_up}
use Rattle.demands.specs.Demand2.{Step}
use Rattle.demands.specs.Demand3.{KeptWaitingBy, told}
use Rattle.demands.specs.SeatLedger.{lost_at, dropped_at}
use Rattle.demands.specs.WrongPrograms.{fixed, ignoring}
use Rattle.demands.specs.Needed.{SeenBy, NamedWhile, Accounted, KeepsPlaces, Needed}
use Rattle.demands.proofs.Opened.{laid_open}
use Rattle.demands.proofs.Demand3.{wired_all}
use Rattle.demands.proofs.SeatLedger.{sound_at}
use Rattle.demands.proofs.Closed3.{calls, all_call, asks, set_automatic, eight, automatic_closed}
use Rattle.demands.proofs.ClosedLedger.{lesson}

-- ---- the three things that an event gives

-- the values and the outputs of a run
values : List Outcome → List ℕ
values [] = []
values (o ∷ os) = value_of o.answer ∷ digit o.output ∷ values os

nth : ℕ → List ℕ → ℕ
nth k l = get_or l k 0

-- the scratch register is written and read: the bench that is handed on is the one before
not_without_the_bench : SeenBy {A = Answer × Bool} (λ o. (o.answer, o.output)) → ⊥
unfolding laid_open values nth
not_without_the_bench h =
    let e : ◌≡◌ {A = ℕ} 0 0x55 = ap (λ os. nth 2 (values os)) (h (ignoring outcome) (λ b r. refl) power_up (whole 1 0 7 0x55 ∷ whole 0 0 7 0 ∷ [])).0 in
    omega arith

-- LSR 60
not_without_the_answer : SeenBy {A = Bench × Bool} (λ o. (o.bench, o.output)) → ⊥
unfolding laid_open values nth
not_without_the_answer h =
    let e : ◌≡◌ {A = ℕ} 0 0x60 = ap (λ os. nth 0 (values os)) (h (fixed Done outcome) (λ b r. refl) power_up (whole 0 0 5 0 ∷ [])).0 in
    omega arith

-- the output of every outcome turned round
turned_round : Step
turned_round b r = record { bench = (outcome b r).bench; answer = (outcome b r).answer; output = not (outcome b r).output }

not_without_the_output : SeenBy {A = Bench × Answer} (λ o. (o.bench, o.answer)) → ⊥
unfolding laid_open values nth turned_round
not_without_the_output h =
    let e : ◌≡◌ {A = ℕ} 1 0 = ap (λ os. nth 1 (values os)) (h turned_round (λ b r. refl) power_up (whole 0 0 5 0 ∷ [])).0 in
    omega arith

-- ---- seat 7's MSR is read, so that its line falls, and eight acknowledges name other lines

falls : List Record
falls = whole 0 7 6 0 ∷ eight

falls_kept : KeptWaitingBy (λ n b. Unit) 7 false (after_all power_up set_automatic) falls
unfolding laid_open set_automatic all_call calls falls eight asks
falls_kept =
    (tt, inr (tt, (refl, inr (tt, (refl, inr (tt, (refl, inr (tt, (refl, inr (tt, (refl, inr (tt, (refl, inr (tt, (refl, inr (tt, (refl, inr (tt, tt))))))))))))))))))

not_though_its_line_falls : NamedWhile (λ n b. Unit) → ⊥
unfolding laid_open set_automatic all_call calls falls eight asks
not_though_its_line_falls h =
    not_among 0x47 (told (after_all power_up set_automatic) falls) refl
    (h (after_all power_up set_automatic) 7 falls (wired_all power_up set_automatic wired_power_up) automatic_closed.0 falls_kept (omega arith))

-- ---- six characters arrived at seat 3: two were read, one was lost, two were dropped, one waits

not_without_the_lost : Accounted dropped_at → ⊥
unfolding laid_open lesson
not_without_the_lost h = let e : ◌≡◌ {A = ℕ} 6 5 = h 3 power_up lesson refl (sound_at 3) in omega arith

not_without_the_dropped : Accounted lost_at → ⊥
unfolding laid_open lesson
not_without_the_dropped h = let e : ◌≡◌ {A = ℕ} 6 4 = h 3 power_up lesson refl (sound_at 3) in omega arith

-- ---- line 3 has been granted

granted_3 : List Record
granted_3 = whole 7 0 0 0x13 ∷ whole 7 0 1 0x40 ∷ whole 7 0 1 0x01 ∷ calls 3 ++ (asks ∷ [])

not_in_its_place : KeepsPlaces (whole 7 0 0 0xA0) → ⊥
unfolding laid_open granted_3 calls asks
not_in_its_place h = let e : ◌≡◌ {A = ℕ} 7 3 = ap value_of (h (after_all power_up granted_3) 3) in omega arith

pub needed : Needed
needed =
    record {
      not_without_the_bench = not_without_the_bench;
      not_without_the_answer = not_without_the_answer;
      not_without_the_output = not_without_the_output;
      not_though_its_line_falls = not_though_its_line_falls;
      not_without_the_lost = not_without_the_lost;
      not_without_the_dropped = not_without_the_dropped;
      not_in_its_place = not_in_its_place;
    }
