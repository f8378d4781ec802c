-- Demand 1: every event, place, divisor, rate, settings line, save and restore that is asked for is answered, and a refusal leaves everything
-- just as before.
use Rattle.std.specs.Prelude.{ℕ, Bool, true, false, not, ◌&&◌, ◌||◌, List, [], ◌∷◌, ◌≡◌, ◌⊎◌, eqb, ltb}
use Rattle.base.specs.declared.Answer.{Answer}
use Rattle.base.specs.Answers.{refusal_of, value_of}
use Rattle.base.specs.Refusals.{Ground, refusal_order, stands}
use Rattle.base.specs.RefusalLaws.{none_holds}
use Rattle.rates.specs.Answering.{answer_in}
use Rattle.rates.specs.Rates.{rates_of, divisors_of, divisor_of, rate_of}
use Rattle.controller.specs.Refusals.{line_above}
use Rattle.controller.specs.Steps.{placed}
use Rattle.controller.specs.Turns.{output_of}
use Rattle.records.specs.Events.{Record}
use Rattle.bench.specs.declared.Bench.{Bench}
use Rattle.bench.specs.declared.Outcome.{Outcome}
use Rattle.bench.specs.Refusals.{grounds}
use Rattle.bench.specs.Seats.{seat}
use Rattle.bench.specs.Steps.{outcome}
use Rattle.demands.specs.DemandImages.{save_reasons, Savings, restore_reasons, Restorings}
use Rattle.demands.specs.DemandLines.{read_reasons, Readings, write_reasons, Writings}
use Rattle.demands.specs.Reasons.{AnsweredBy}

-- the number stands, and none before it in the order does
abbrev pub Listed : List ℕ → ℕ → List Ground → Type 0
Listed [] n gs = ⊥
Listed (m ∷ ms) n gs = ((stands m gs ≡ true) × (n ≡ m)) ⊎ ((stands m gs ≡ false) × Listed ms n gs)

-- an accepted one has no number, and no ground of the list holds
pub record Accepted (gs : List Ground) (a : Answer) : Type 0 where
  pub number : refusal_of a ≡ 0
  pub none : none_holds gs ≡ true

-- a refused one has the first number of the order that stands, and a value that the demand names
pub record RefusedBy (order : List ℕ) (value : ℕ) (gs : List Ground) (a : Answer) : Type 0 where
  pub listed : Listed order (refusal_of a) gs
  pub told : value_of a ≡ value

-- it is answered: one or the other
abbrev pub Answered : List ℕ → ℕ → List Ground → Answer → Type 0
Answered order value gs a = Accepted gs a ⊎ RefusedBy order value gs a

-- ---- the entries: events, the place in turn, the divisor list both ways, settings lines both ways, images both ways

-- The tender: and a bench with every seat and the controller just as before
pub record Unchanged (b : Bench) (o : Outcome) : Type 0 where
  pub seats : (n : ℕ) → seat o.bench n ≡ seat b n
  pub controller : o.bench.controller ≡ b.controller
  pub whole : o.bench ≡ b
  pub output : o.output ≡ output_of b.controller

-- in any order: each record of a list, at the bench that it meets
abbrev pub AllAnswered : ℕ → Bench → List Record → Type 0
AllAnswered value b [] = Unit
AllAnswered value b (r ∷ rs) =
    (Accepted (grounds b r) (outcome b r).answer ⊎ (RefusedBy refusal_order value (grounds b r) (outcome b r).answer × Unchanged b (outcome b r)))
    × AllAnswered value (outcome b r).bench rs

abbrev pub Events : ℕ → Type 0
Events value = (b : Bench) (rs : List Record) → AllAnswered value b rs

-- "line above 7 gives refusal 1"; a call gives the answer alone, so that there is no bench to change
abbrev pub Places : ℕ → Type 0
Places value = (b : Bench) (n : ℕ) → Answered refusal_order value (record { number = 1; holds = line_above n } ∷ []) (placed b.controller n)

-- a number is in a list
abbrev pub among : ℕ → List ℕ → Bool
among n [] = false
among n (m ∷ ms) = eqb m n || among n ms

-- "rate or clock not in the divisor list"; "Clocks are numbered 0 to 2"
abbrev pub unlisted : ℕ → ℕ → Bool
unlisted rate clock = not (ltb clock 3 && among rate (rates_of clock))

-- and so has this call no bench at all; its one number makes its order
abbrev pub Divisors : ℕ → Type 0
Divisors value = (rate clock : ℕ) → Answered (10 ∷ []) value (record { number = 10; holds = unlisted rate clock } ∷ []) (divisor_of rate clock)

-- ticket 1: "(also for a divisor not listed at the clock)"
abbrev pub Rates : ℕ → Type 0
Rates value =
    (divisor clock : ℕ) → Answered (10 ∷ []) value (record { number = 10; holds = not (among divisor (divisors_of clock)) } ∷ []) (answer_in (rate_of divisor clock))

-- The tender: every event on the bench, with any numbers in it and in any order, is answered; each public entry tests its own input; a refused
-- one gives the answer FFF
pub record Demand1 : Type 0 where
  pub events : Events 0xFFF
  pub places : Places 0xFFF
  pub divisors : Divisors 0xFFF
  pub rates : Rates 0xFFF
  pub readings : Readings 0xFFF
  pub writings : Writings 0xFFF
  pub savings : Savings 0xFFF
  pub restorings : Restorings 0xFFF

-- no entry keeps the demand with another value, 000 among them
pub record OnlyFFF : Type 0 where
  pub events : (value : ℕ) → Events value → value ≡ 0xFFF
  pub places : (value : ℕ) → Places value → value ≡ 0xFFF
  pub divisors : (value : ℕ) → Divisors value → value ≡ 0xFFF
  pub rates : (value : ℕ) → Rates value → value ≡ 0xFFF
  pub readings : (value : ℕ) → Readings value → value ≡ 0xFFF
  pub writings : (value : ℕ) → Writings value → value ≡ 0xFFF
  pub savings : (value : ℕ) → Savings value → value ≡ 0xFFF
  pub restorings : (value : ℕ) → Restorings value → value ≡ 0xFFF

-- the demand leaves nothing of a refusal open: by one order and one list of grounds two answers that it lets through have one number, and from
-- one bench two outcomes that it calls unchanged have one bench and one output
pub record OneRefusal : Type 0 where
  pub number : (order : List ℕ) (value : ℕ) (gs : List Ground) (a b : Answer) → Answered order value gs a → Answered order value gs b
      → refusal_of a ≡ refusal_of b
  pub reading : (value : ℕ) (line : List ℕ) (clock : ℕ) (a b : Answer) → AnsweredBy value (read_reasons line clock) a
      → AnsweredBy value (read_reasons line clock) b → refusal_of a ≡ refusal_of b
  pub writing : (value clock divisor lcr : ℕ) (d : List ℕ) (a b : Answer) → AnsweredBy value (write_reasons clock divisor lcr d) a
      → AnsweredBy value (write_reasons clock divisor lcr d) b → refusal_of a ≡ refusal_of b
  pub saving : (value at : ℕ) (l : List ℕ) (a b : Answer) → AnsweredBy value (save_reasons at l) a → AnsweredBy value (save_reasons at l) b
      → refusal_of a ≡ refusal_of b
  pub restoring : (value : ℕ) (p : List ℕ) (a b : Answer) → AnsweredBy value (restore_reasons p) a → AnsweredBy value (restore_reasons p) b
      → refusal_of a ≡ refusal_of b
  pub bench : (b : Bench) (o p : Outcome) → Unchanged b o → Unchanged b p → (o.bench ≡ p.bench) × (o.output ≡ p.output)
