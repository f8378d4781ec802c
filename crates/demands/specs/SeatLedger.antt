-- The receive ledger of a seat of the bench over any run: a bench that invents a queue count cannot keep it.
use Rattle.std.specs.Prelude.{ℕ, ◌+◌, true, List, [], ◌∷◌, ◌++◌, ◌≡◌, length}
use Rattle.base.specs.Subsequences.{Subsequence}
use Rattle.queue.specs.declared.Character.{Character}
use Rattle.receiver.specs.Ledger.{Moment, Handed, characters, bytes, arrived_in, lost_in, dropped_in, queued}
use Rattle.channel.specs.Moments.{told_in}
use Rattle.seat.specs.Receiving.{side, befalling, receives_soundly}
use Rattle.records.specs.Events.{Record, decoded, seat_count}
use Rattle.bench.specs.declared.Bench.{Bench}
use Rattle.bench.specs.Seats.{chair, seat, power_up}
use Rattle.bench.specs.Steps.{outcome}
use Rattle.bench.specs.Runs.{own, after_all}
use Rattle.demands.specs.Demand2.{Step, ends}

-- what befalls the receive side of seat n by a record: nothing, where the record is another seat's, the controller's, or refused
abbrev pub befalls : ℕ → Bench → Record → List Moment
befalls n b r = befalling (seat b n) (own (chair n) (decoded r))

-- ---- over a run of a program's step, each record on the bench that the one before left

-- all that befalls the receive side of seat n
abbrev pub befalls_in : Step → ℕ → Bench → List Record → List Moment
befalls_in f n b [] = []
befalls_in f n b (r ∷ rs) = befalls n b r ++ befalls_in f n (f b r).bench rs

-- the characters that arrive at seat n, first to last, with their marks: those of accepted arrivals outside loopback, and in loopback those that come back
abbrev pub arrived_at : Step → ℕ → Bench → List Record → List Character
arrived_at f n b [] = []
arrived_at f n b (r ∷ rs) = arrived_in (befalls n b r) ++ arrived_at f n (f b r).bench rs

-- the characters read from seat n, as the answers tell them: with their marks, and how many remain behind each
abbrev pub read_at : Step → ℕ → Bench → List Record → List Handed
read_at f n b [] = []
read_at f n b (r ∷ rs) = told_in (side (seat b n)) (f b r).answer (befalls n b r) ++ read_at f n (f b r).bench rs

-- how many an overrun loses there, and how many are dropped with the queue
abbrev pub lost_at : Step → ℕ → Bench → List Record → ℕ
lost_at f n b [] = 0
lost_at f n b (r ∷ rs) = lost_in (side (seat b n)) (befalls n b r) + lost_at f n (f b r).bench rs

abbrev pub dropped_at : Step → ℕ → Bench → List Record → ℕ
dropped_at f n b [] = 0
dropped_at f n b (r ∷ rs) = dropped_in (side (seat b n)) (befalls n b r) + dropped_at f n (f b r).bench rs

-- and both
abbrev pub gone_at : Step → ℕ → Bench → List Record → ℕ
gone_at f n b rs = lost_at f n b rs + dropped_at f n b rs

-- the characters in the receive queue of seat n, the oldest first
abbrev pub queued_at : ℕ → Bench → List ℕ
queued_at n b = queued (side (seat b n))

-- the receive side of seat n is sound
abbrev pub SoundAt : ℕ → Bench → Type 0
SoundAt n b = receives_soundly (seat b n) ≡ true

-- every character is accounted for: it is read, gone, as a rule counts those, or still waits
abbrev pub Balanced : (Step → ℕ → Bench → List Record → ℕ) → Step → ℕ → Bench → List Record → Type 0
Balanced gone f n b rs =
    length (arrived_at f n b rs) + length (queued_at n b) ≡ length (read_at f n b rs) + gone f n b rs + length (queued_at n (ends f b rs))

-- from any bench with all its seats on, where the receive side of seat n is sound: what is read, and then what still waits, came in that order;
-- and every character is accounted for
pub record Kept (f : Step) (n : ℕ) (b : Bench) (rs : List Record) : Type 0 where
  pub in_order : Subsequence (bytes (characters (read_at f n b rs)) ++ queued_at n (ends f b rs)) (queued_at n b ++ bytes (arrived_at f n b rs))
  pub balanced : Balanced gone_at f n b rs

-- a step keeps the ledger
abbrev pub Keeps : Step → Type 0
Keeps f = (n : ℕ) (b : Bench) (rs : List Record) → length b.seats ≡ seat_count → SoundAt n b → Kept f n b rs

abbrev pub SeatLedger : Type 0
SeatLedger = Keeps outcome

-- and from power-up on, where nothing is queued
pub record FromPowerUp (n : ℕ) (rs : List Record) : Type 0 where
  pub in_order : Subsequence (bytes (characters (read_at outcome n power_up rs)) ++ queued_at n (after_all power_up rs)) (bytes (arrived_at outcome n power_up rs))
  pub balanced : length (arrived_at outcome n power_up rs)
      ≡ length (read_at outcome n power_up rs) + gone_at outcome n power_up rs + length (queued_at n (after_all power_up rs))

abbrev pub SeatLedgerFromPowerUp : Type 0
SeatLedgerFromPowerUp = (n : ℕ) (rs : List Record) → FromPowerUp n rs
