-- No part of the demands can be left out: each statement with one part less, and that it does not hold.
use Rattle.std.specs.Prelude.{ℕ, Bool, false, List, ◌≡◌, length}
use Rattle.base.specs.declared.Answer.{Answer}
use Rattle.controller.specs.Steps.{placed}
use Rattle.turn.specs.Waiting.{Start}
use Rattle.turn.specs.Demand3.{NamedBy}
use Rattle.records.specs.Events.{Record, whole, seat_count}
use Rattle.bench.specs.declared.Bench.{Bench}
use Rattle.bench.specs.declared.Outcome.{Outcome}
use Rattle.bench.specs.Steps.{outcome}
use Rattle.bench.specs.Wired.{Wired}
use Rattle.demands.specs.Demand2.{Step, Suffices}
use Rattle.demands.specs.Demand3.{KeptWaitingBy, told}
use Rattle.demands.specs.SeatLedger.{Balanced, lost_at, dropped_at, SoundAt}

-- demand 2, were a step asked only for what a view of its outcomes shows
abbrev pub SeenBy : {A : Type 0} → (Outcome → A) → Type 0
SeenBy view = Suffices (λ f. (b : Bench) (r : Record) → view (f b r) ≡ view (outcome b r))

-- the end of demand 3 by any rule of what the bench is after each record
abbrev pub NamedWhile : (ℕ → Bench → Type 0) → Type 0
NamedWhile stays = (b : Bench) (n : ℕ) (rs : List Record) → Wired b → Start b.controller n → KeptWaitingBy stays n false b rs → NamedBy 8 b.controller n (told b rs)

-- the ledger, by any count of the characters that are gone
abbrev pub Accounted : (Step → ℕ → Bench → List Record → ℕ) → Type 0
Accounted gone = (n : ℕ) (b : Bench) (rs : List Record) → length b.seats ≡ seat_count → SoundAt n b → Balanced gone outcome n b rs

-- every line keeps its place over a record
abbrev pub KeepsPlaces : Record → Type 0
KeepsPlaces r = (b : Bench) (n : ℕ) → placed (outcome b r).bench.controller n ≡ placed b.controller n

pub record Needed : Type 0 where
  -- The tender: each event's answer, the bench after it and the interrupt output. None of the three follows from the others
  pub not_without_the_bench : SeenBy {A = Answer × Bool} (λ o. (o.answer, o.output)) → ⊥
  pub not_without_the_answer : SeenBy {A = Bench × Bool} (λ o. (o.bench, o.output)) → ⊥
  pub not_without_the_output : SeenBy {A = Bench × Answer} (λ o. (o.bench, o.answer)) → ⊥
  -- The tender: let its line stay high
  pub not_though_its_line_falls : NamedWhile (λ n b. Unit) → ⊥
  -- an overrun loses a character, and an emptied queue drops those that wait
  pub not_without_the_lost : Accounted dropped_at → ⊥
  pub not_without_the_dropped : Accounted lost_at → ⊥
  -- "101 end and make it last-ranked": its place moves
  pub not_in_its_place : KeepsPlaces (whole 7 0 0 0xA0) → ⊥
