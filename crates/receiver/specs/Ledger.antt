-- The receive ledger: a run of the receive side, what RBR reads hand over, and what became of every character.
use Rattle.std.specs.Prelude.{ℕ, ◌+◌, Bool, false, not, List, [], ◌∷◌, ◌++◌, map, ◌≡◌, leb, length}
use Rattle.base.specs.Pick.{pick}
use Rattle.base.specs.Subsequences.{Subsequence}
use Rattle.queue.specs.declared.Character.{Character}
use Rattle.queue.specs.Queue.{capacity, contents}
use Rattle.receiver.specs.declared.Receiver.{Receiver}
use Rattle.receiver.specs.declared.Got.{Got}
use Rattle.receiver.specs.Receiver.{quiet, none_queued, received, got, lsr_seen, waited, cleared, after_mode_change, restarted}

-- what can befall a receive side: a character arrives, from outside or in loopback, RBR is read, LSR is read, a character time passes, the
-- queue is emptied, the mode changes, a master reset
pub data Moment : Type 0 where
  arrives : Character → Moment
  rbr : Moment
  lsr : Moment
  passes : Moment
  empties : Moment
  changes : Moment
  resets : Moment

-- a receive side with its mode
pub record Side : Type 0 where
  pub fifo : Bool
  pub receiver : Receiver

-- the side after a moment; a master reset clears the FCR, and so leaves 16450 mode
unfoldable pub after : Side → Moment → Side
after s (arrives ch) = record { fifo = s.fifo; receiver = received s.fifo s.receiver ch }
after s rbr = record { fifo = s.fifo; receiver = (got s.receiver).receiver }
after s lsr = record { fifo = s.fifo; receiver = lsr_seen s.fifo s.receiver }
after s passes = record { fifo = s.fifo; receiver = waited s.fifo s.receiver }
after s empties = record { fifo = s.fifo; receiver = cleared s.receiver }
after s changes = record { fifo = not s.fifo; receiver = after_mode_change s.receiver }
after s resets = record { fifo = false; receiver = restarted s.receiver }

-- the side after a run
unfoldable pub after_all : Side → List Moment → Side
after_all s [] = s
after_all s (m ∷ ms) = after_all (after s m) ms

-- the characters in the queue with their marks, the oldest first, and their bytes
abbrev pub held : Side → List Character
held s = contents s.receiver.queue

abbrev pub bytes : List Character → List ℕ
bytes = map (λ ch. ch.«data»)

abbrev pub queued : Side → List ℕ
queued s = bytes (held s)

-- how many the queue holds
abbrev pub number : Side → ℕ
number s = s.receiver.queue.count

-- what an RBR read hands over. Ticket 6: a character with "its marks and how many remain behind it"
pub record Handed : Type 0 where
  pub character : Character
  pub behind : ℕ

abbrev pub handed : Got → Handed
handed g = record { character = record { «data» = g.byte; marks = g.figures.marks }; behind = g.figures.behind }

-- the characters of those that were handed over
abbrev pub characters : List Handed → List Character
characters = map (λ h. h.character)

-- ---- of one moment

-- the character that arrives
abbrev pub arriving : Moment → List Character
arriving (arrives ch) = ch ∷ []
arriving rbr = []
arriving lsr = []
arriving passes = []
arriving empties = []
arriving changes = []
arriving resets = []

-- the character that is read; from an empty queue none is, though RBR shows the last byte again
abbrev pub reading : Side → Moment → List Handed
reading s (arrives ch) = []
reading s rbr = pick (none_queued s.receiver) [] (handed (got s.receiver) ∷ [])
reading s lsr = []
reading s passes = []
reading s empties = []
reading s changes = []
reading s resets = []

-- how many an overrun loses: one, where the queue is full
abbrev pub losing : Side → Moment → ℕ
losing s (arrives ch) = pick (leb (capacity s.fifo) (number s)) 1 0
losing s rbr = 0
losing s lsr = 0
losing s passes = 0
losing s empties = 0
losing s changes = 0
losing s resets = 0

-- how many are dropped with the queue
abbrev pub dropping : Side → Moment → ℕ
dropping s (arrives ch) = 0
dropping s rbr = 0
dropping s lsr = 0
dropping s passes = 0
dropping s empties = number s
dropping s changes = number s
dropping s resets = number s

-- ---- of a run

unfoldable pub arrived_in : List Moment → List Character
arrived_in [] = []
arrived_in (m ∷ ms) = arriving m ++ arrived_in ms

unfoldable pub read_in : Side → List Moment → List Handed
read_in s [] = []
read_in s (m ∷ ms) = reading s m ++ read_in (after s m) ms

unfoldable pub lost_in : Side → List Moment → ℕ
lost_in s [] = 0
lost_in s (m ∷ ms) = losing s m + lost_in (after s m) ms

unfoldable pub dropped_in : Side → List Moment → ℕ
dropped_in s [] = 0
dropped_in s (m ∷ ms) = dropping s m + dropped_in (after s m) ms

-- ---- the ledger

-- what is read, and then what still waits, came in that order; and every character is accounted for
pub record Ledger (s : Side) (ms : List Moment) : Type 0 where
  pub in_order : Subsequence (bytes (characters (read_in s ms)) ++ queued (after_all s ms)) (queued s ++ bytes (arrived_in ms))
  pub balanced : length (arrived_in ms) + length (queued s)
      ≡ length (read_in s ms) + lost_in s ms + dropped_in s ms + length (queued (after_all s ms))

-- the receive side at power-up, in 16450 mode
abbrev pub at_power_up : Side
at_power_up = record { fifo = false; receiver = quiet }
