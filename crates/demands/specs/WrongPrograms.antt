-- The wrong programs that document 01's last chapter lists, as programs; and that none of them meets the contract.
use Rattle.std.specs.Prelude.{ℕ, suc, ◌<◌, Bool, false, List, [], ◌∷◌, ◌++◌, ◌≡◌}
use Rattle.base.specs.declared.Answer.{Answer}
use Rattle.base.specs.declared.Answer.TheVariants as answer
use Rattle.base.specs.Pick.{pick}
use Rattle.base.specs.Answers.{value_of, is_letter, figures_of}
use Rattle.base.specs.declared.Figures.{Figures}
use Rattle.rank.specs.Rank.{before, order}
use Rattle.rank.specs.Sets.{line}
use Rattle.turn.specs.Waiting.{Start}
use Rattle.turn.specs.Demand3.{InTurn}
use Rattle.seat.specs.Receiving.{one_more}
use Rattle.records.specs.Events.{Record, decoded, seat_count}
use Rattle.bench.specs.declared.Bench.{Bench}
use Rattle.bench.specs.declared.Outcome.{Outcome}
use Rattle.bench.specs.Seats.{power_up, seat, with_seat}
use Rattle.bench.specs.Steps.{shown, outcome}
use Rattle.bench.specs.Runs.{after_all}
use Rattle.demands.specs.Contracts.{Ensured, EnsuredPlace}
use Rattle.demands.specs.Demand2.{Step, Meets, ends}
use Rattle.demands.specs.Demand3.{heard, KeptWaiting}
use Rattle.demands.specs.SeatLedger.{Keeps}
use Rattle.demands.specs.SeatLetters.{HandsOver}

-- ---- steps

-- "a bench that refuses everything": each record by any number
abbrev pub refusing : (Bench → Record → ℕ) → Step
refusing number b r = shown b (answer.Refused (suc (number b r)))

-- "one with a fixed answer", whatever it does besides
abbrev pub fixed : Answer → Step → Step
fixed a f b r = record { bench = (f b r).bench; answer = a; output = (f b r).output }

-- "one that ignores events", whatever it answers
abbrev pub ignoring : Step → Step
ignoring f b r = record { bench = b; answer = (f b r).answer; output = (f b r).output }

-- "one that invents a queue count": one character more at seat n
abbrev pub inventing : ℕ → Step
inventing n b r =
    record {
      bench = with_seat (outcome b r).bench n (one_more (seat (outcome b r).bench n));
      answer = (outcome b r).answer;
      output = (outcome b r).output;
    }

-- ticket 6: one that tells other figures with a letter, and all else as it is
abbrev pub retelling : (Figures → Figures) → Step
retelling other b r =
    let a = (outcome b r).answer in
    record {
      bench = (outcome b r).bench;
      answer = pick (is_letter a) (answer.Letter (value_of a) (other (figures_of a))) a;
      output = (outcome b r).output;
    }

-- ---- programs with a memory of their own: what they make of a record, once these have come from power-up on

abbrev pub Program : Type 0
Program = List Record → Record → Outcome

-- a step, played from power-up on
abbrev pub played : Step → Program
played f before r = f (ends f power_up before) r

-- it meets the contract of the step at every record of every run
abbrev pub MeetsFrom : Program → Type 0
MeetsFrom p = (before : List Record) (r : Record) → Ensured (after_all power_up before) r (p before r)

-- "one that works for the first event and then pretends": from then on it answers and raises its output as it likes, and the bench stays
abbrev pub pretending : (List Record → Record → Answer) → (List Record → Record → Bool) → Program
pretending says raises [] r = outcome power_up r
pretending says raises (first ∷ rest) r = record { bench = (outcome power_up first).bench; answer = says rest r; output = raises rest r }

-- what the acknowledges among further records answer
abbrev pub told_by : Program → List Record → List Record → List Answer
told_by p before [] = []
told_by p before (r ∷ rs) = heard (decoded r) (p before r).answer ++ told_by p (before ++ (r ∷ [])) rs

-- demand 3 of a program: its premises are over the definitions, its conclusion over what the program answers
abbrev pub TakesTurns : Program → Type 0
TakesTurns p = (before : List Record) (n : ℕ) (rs : List Record) → Start (after_all power_up before).controller n
    → KeptWaiting n false (after_all power_up before) rs → InTurn (after_all power_up before).controller n (told_by p before rs)

-- ---- places

-- what a program makes of a bench and a line
abbrev pub Placing : Type 0
Placing = Bench → ℕ → Answer

-- it meets the contract of `Bench::place`
abbrev pub MeetsPlace : Placing → Type 0
MeetsPlace p = (b : Bench) (n : ℕ) → EnsuredPlace b n (p b n)

-- "a line's place in turn (the number of lines ranked above it"
abbrev pub Counts : Placing → Type 0
Counts p = (b : Bench) (n : ℕ) → n < 8 → value_of (p b n) ≡ before (line n) (order b.controller.operation.first)

-- one that invents "a place in turn": it does not look at the bench
abbrev pub dreaming : (ℕ → Answer) → Placing
dreaming says b n = says n

-- "These must be shut out": by the contract; the pretender by demand 3 too, the inventors by the ledger and by what a place counts
pub record ShutOut : Type 0 where
  pub refuses_everything : (number : Bench → Record → ℕ) → Meets (refusing number) → ⊥
  pub fixed_answer : (a : Answer) (f : Step) → Meets (fixed a f) → ⊥
  pub ignores_events : (f : Step) → Meets (ignoring f) → ⊥
  pub invents_a_count : (n : ℕ) → n < seat_count → Meets (inventing n) → ⊥
  pub breaks_the_ledger : (n : ℕ) → n < seat_count → Keeps (inventing n) → ⊥
  -- every count of it is right, and what is read never came
  pub breaks_the_order : (a : Answer) → Keeps (fixed a outcome) → ⊥
  -- ticket 6: every byte of it is right, and a letter has no marks, or one behind it too many
  pub hides_marks : HandsOver (retelling (λ f. record { marks = 0; behind = f.behind })) → ⊥
  pub miscounts_behind : HandsOver (retelling (λ f. record { marks = f.marks; behind = suc f.behind })) → ⊥
  pub pretends : (says : List Record → Record → Answer) (raises : List Record → Record → Bool) → MeetsFrom (pretending says raises) → ⊥
  -- one that answers by the record alone, and so every acknowledge alike
  pub pretends_out_of_turn : (says : Record → Answer) (raises : List Record → Record → Bool) → TakesTurns (pretending (λ before r. says r) raises) → ⊥
  pub invents_a_place : (says : ℕ → Answer) → MeetsPlace (dreaming says) → ⊥
  pub breaks_the_count : (says : ℕ → Answer) → Counts (dreaming says) → ⊥

-- and these laws shut out nothing that meets: a step played from power-up on meets at every record, takes turns, keeps the ledger and
-- hands over its letters; and a place that meets counts
pub record LetIn : Type 0 where
  pub meets_from : (f : Step) → Meets f → MeetsFrom (played f)
  pub takes_turns : (p : Program) → MeetsFrom p → TakesTurns p
  pub keeps_the_ledger : (f : Step) → Meets f → Keeps f
  pub hands_over : (f : Step) → Meets f → HandsOver f
  pub counts_places : (p : Placing) → MeetsPlace p → Counts p
