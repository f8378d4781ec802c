-- How long a time-out lasts, over a run of what can befall a receive side.
use Rattle.std.specs.Prelude.{ℕ, ◌<◌, Bool, true, false, not, ◌||◌, List, [], ◌∷◌, ◌++◌, ◌≡◌}
use Rattle.queue.specs.declared.Character.{Character}
use Rattle.receiver.specs.Receiver.{none_queued}
use Rattle.receiver.specs.Ledger.{Moment, arrives, rbr, lsr, passes, empties, changes, resets, Side, after, after_all}

-- its time-out count
abbrev pub timeout_count : Side → ℕ
timeout_count s = s.receiver.timeout

-- what ends a time-out. Ticket 5: "a time-out that has happened is cleared by reading a character", for which one must be queued; document 01:
-- "Emptying the receive queue sets the time-out count to 0.", "A changed bit 0 empties both", and of a master reset "time-out count cleared"
unfoldable pub ending : Side → Moment → Bool
ending s (arrives ch) = false
ending s rbr = not (none_queued s.receiver)
ending s lsr = false
ending s passes = false
ending s empties = true
ending s changes = true
ending s resets = true

-- some moment of the run does
unfoldable pub ends_in : Side → List Moment → Bool
ends_in s [] = false
ends_in s (m ∷ ms) = ending s m || ends_in (after s m) ms

-- a character time that makes a time-out happen: the fourth "in FIFO mode with a character in the receive queue"
pub record Fourth (s : Side) (m : Moment) : Type 0 where
  pub time : m ≡ passes
  pub mode : s.fifo ≡ true
  pub waiting : none_queued s.receiver ≡ false
  pub third : timeout_count s ≡ 3

-- what a run leaves of a time-out, and what one moment more does to it
pub record Lasting (s : Side) (ms : List Moment) : Type 0 where
  -- ticket 5: "an arrival sets back only one that has not": one that has stays, as long as nothing ends it, whatever else befalls the side
  pub stays : timeout_count s ≡ 4 → ends_in s ms ≡ false → timeout_count (after_all s ms) ≡ 4
  -- what ends it leaves nothing counted
  pub ends : (m : Moment) → ending (after_all s ms) m ≡ true → timeout_count (after_all s (ms ++ (m ∷ []))) ≡ 0
  -- ticket 5: it "sets a smaller one to 0", a count below 4, also where it finds the queue full
  pub set_back : (ch : Character) → timeout_count (after_all s ms) < 4 → timeout_count (after_all s (ms ++ (arrives ch ∷ []))) ≡ 0
  -- and nothing but a fourth character time makes one happen
  pub happens : (m : Moment) → timeout_count (after_all s ms) < 4 → timeout_count (after_all s (ms ++ (m ∷ []))) ≡ 4 → Fourth (after_all s ms) m
