-- One character in FIFO mode, from its arrival to its read.
use Rattle.std.specs.Prelude.{◌<◌, Bool, true, false, ◌&&◌, ◌||◌, List, [], ◌∷◌, ◌++◌, ◌≡◌, length}
use Rattle.base.specs.Pick.{pick}
use Rattle.queue.specs.declared.Character.{Character}
use Rattle.receiver.specs.Receiver.{got}
use Rattle.receiver.specs.Ledger.{Moment, arrives, rbr, lsr, passes, empties, changes, resets, Side, after_all, held, handed}

-- a moment at which nothing leaves the queue
unfoldable pub stays : Moment → Bool
stays (arrives ch) = true
stays rbr = false
stays lsr = true
stays passes = true
stays empties = false
stays changes = false
stays resets = false

unfoldable pub all_stay : List Moment → Bool
all_stay [] = true
all_stay (m ∷ ms) = stays m && all_stay ms

unfoldable pub is_lsr : Moment → Bool
is_lsr (arrives ch) = false
is_lsr rbr = false
is_lsr lsr = true
is_lsr passes = false
is_lsr empties = false
is_lsr changes = false
is_lsr resets = false

-- LSR is read among them
unfoldable pub lsr_among : List Moment → Bool
lsr_among [] = false
lsr_among (m ∷ ms) = is_lsr m || lsr_among ms

-- RBR reads, and what befalls the side before each
unfoldable pub reads_after : List (List Moment) → List Moment
reads_after [] = []
reads_after (ms ∷ rest) = ms ++ (rbr ∷ reads_after rest)

unfoldable pub each_stays : List (List Moment) → Bool
each_stays [] = true
each_stays (ms ∷ rest) = all_stay ms && each_stays rest

-- It arrives where there is room; those before it are read, with anything between that leaves the queue alone; and then it is the oldest for a while
pub record Lived (s : Side) (ahead : List (List Moment)) (oldest : List Moment) : Type 0 where
  pub mode : s.fifo ≡ true
  pub room : length (held s) < 16
  pub before : length ahead ≡ length (held s)
  pub read : each_stays ahead ≡ true
  pub waits : all_stay oldest ≡ true

-- what the next RBR read hands over: it, with the marks it arrived with, or none. Ticket 6: "in FIFO mode marks that an LSR read cleared stay cleared":
-- an LSR read while it was the oldest, and no earlier one
abbrev pub ReadAs : Side → Character → List (List Moment) → List Moment → Type 0
ReadAs s ch ahead oldest =
    (handed (got (after_all s (arrives ch ∷ (reads_after ahead ++ oldest))).receiver)).character
    ≡ record { «data» = ch.«data»; marks = pick (lsr_among oldest) 0 ch.marks }
