-- Each character followed from its arrival on, and what RBR reads hand over of it.
use Rattle.std.specs.Prelude.{ℕ, Bool, true, false, not, ◌&&◌, ◌||◌, List, [], ◌∷◌, ◌++◌, map, ◌≡◌, length, drop}
use Rattle.base.specs.Pick.{pick}
use Rattle.base.specs.Subsequences.{Subsequence}
use Rattle.queue.specs.declared.Character.{Character}
use Rattle.queue.specs.Queue.{plain}
use Rattle.queue.specs.Joining.{joined}
use Rattle.receiver.specs.Ledger.{Moment, arrives, rbr, lsr, passes, empties, changes, resets, Side, after, held, Handed, characters, arrived_in}

-- a character as it arrived, and whether an LSR read has cleared its marks since
pub record Followed : Type 0 where
  pub character : Character
  pub cleared : Bool

abbrev pub fresh : Character → Followed
fresh ch = record { character = ch; cleared = false }

-- ticket 6: "the marks it arrived with", or, cleared, none: "marks that an LSR read cleared stay cleared"
abbrev pub as_told : Followed → Character
as_told f = pick f.cleared (plain f.character) f.character

-- after an LSR read. Ticket 6: "in 16450 mode the marks it arrived with, even after LSR was read; in FIFO mode marks that an LSR read cleared stay
-- cleared": there it clears the oldest one's, and no other's
unfoldable pub seen_by_lsr : Bool → List Followed → List Followed
seen_by_lsr fifo [] = []
seen_by_lsr fifo (f ∷ l) = record { character = f.character; cleared = f.cleared || fifo } ∷ l

-- those that wait, the oldest first, after one moment more
unfoldable pub waiting_after : Bool → List Followed → Moment → List Followed
waiting_after fifo l (arrives ch) = joined fifo l (fresh ch)
waiting_after fifo l rbr = drop 1 l
waiting_after fifo l lsr = seen_by_lsr fifo l
waiting_after fifo l passes = l
waiting_after fifo l empties = []
waiting_after fifo l changes = []
waiting_after fifo l resets = []

unfoldable pub waiting_in : Side → List Followed → List Moment → List Followed
waiting_in s l [] = l
waiting_in s l (m ∷ ms) = waiting_in (after s m) (waiting_after s.fifo l m) ms

-- one that an RBR read takes, and how many then wait
pub record Leaving : Type 0 where
  pub followed : Followed
  pub behind : ℕ

unfoldable pub oldest_leaves : List Followed → List Leaving
oldest_leaves [] = []
oldest_leaves (f ∷ l) = record { followed = f; behind = length l } ∷ []

abbrev pub leaving_by : List Followed → Moment → List Leaving
leaving_by l (arrives ch) = []
leaving_by l rbr = oldest_leaves l
leaving_by l lsr = []
leaving_by l passes = []
leaving_by l empties = []
leaving_by l changes = []
leaving_by l resets = []

unfoldable pub leaving_in : Side → List Followed → List Moment → List Leaving
leaving_in s l [] = []
leaving_in s l (m ∷ ms) = leaving_by l m ++ leaving_in (after s m) (waiting_after s.fifo l m) ms

-- the characters as they arrived
abbrev pub arrived_as : List Followed → List Character
arrived_as = map (λ f. f.character)

-- how one is handed over
abbrev pub handed_as : Leaving → Handed
handed_as leaves = record { character = as_told leaves.followed; behind = leaves.behind }

-- 16450 mode from the first moment to the last
unfoldable pub in16450 : Side → List Moment → Bool
in16450 s [] = not s.fifo
in16450 s (m ∷ ms) = not s.fifo && in16450 (after s m) ms

-- what a run hands over, and what it leaves queued
pub record Letters (s : Side) (ms : List Moment) (given : List Handed) (left : List Character) : Type 0 where
  -- each that is read, and each that waits, has the marks it arrived with, and they are cleared exactly where an LSR read in FIFO mode found it the
  -- oldest; and behind one that is read are as many as then wait. Those that are queued at first count as arrived as they stand
  pub given_as : given ≡ map handed_as (leaving_in s (map fresh (held s)) ms)
  pub left_as : left ≡ map as_told (waiting_in s (map fresh (held s)) ms)
  -- those that are read, and then those that wait, each with the marks it arrived with, came in that order
  pub in_order : Subsequence
      (arrived_as (map (λ leaves. leaves.followed) (leaving_in s (map fresh (held s)) ms)) ++ arrived_as (waiting_in s (map fresh (held s)) ms))
      (held s ++ arrived_in ms)
  -- in 16450 mode so did what is told, marks and all, whatever LSR reads lie between
  pub told_in_16450_mode : in16450 s ms ≡ true → Subsequence (characters given ++ left) (held s ++ arrived_in ms)
