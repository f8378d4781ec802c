-- Ticket 8 in closed runs: a lesson in which every one of the five moves, and a restored bench whose tallies are at their largest.
use Rattle.std.specs.Prelude.{ℕ, List, [], ◌∷◌, ◌++◌, map, ◌≡◌, replicate}
use Rattle.base.specs.Answers.{refusal_of}
use Rattle.seat.specs.declared.Five.{Five}
use Rattle.records.specs.Events.{Record, whole}
use Rattle.bench.specs.declared.Bench.{Bench}
use Rattle.bench.specs.declared.Outcome.{Outcome}
use Rattle.bench.specs.Seats.{power_up}
use Rattle.bench.specs.Runs.{after_all}
use Rattle.image.specs.Items.{Item, gives, restores, item_outcomes, after_items}
use Rattle.demands.specs.Tallies.{five_at, counting, KeepsTallies, Moves, Full, Without}

-- ---- a lesson, at seat 0

-- the five in the order of the ticket
abbrev pub told : Five → List ℕ
told f = f.arrived ∷ f.read ∷ f.lost ∷ f.dropped ∷ f.queued ∷ []

-- the divisor is 12 and words have eight bits; 41 arrives, and 42 replaces it; 42 is read, and then nothing is there to read. In FIFO mode 43 and 44
-- arrive, and FCR bit 1 drops them; 45 arrives. In loopback 46 arrives from outside, unheard, and 47 is sent and comes back. A master reset drops 45 and 47; it
-- leaves words of five bits, of which 07 arrives
abbrev pub lesson : List (List Record)
lesson =
    (whole 1 0 3 0x83 ∷ whole 1 0 0 12 ∷ whole 1 0 3 0x03 ∷ whole 2 0 0 0x41 ∷ whole 2 0 0 0x42 ∷ [])
    ∷ (whole 0 0 0 0 ∷ whole 0 0 0 0 ∷ [])
    ∷ (whole 1 0 2 0x01 ∷ whole 2 0 0 0x43 ∷ whole 2 0 0 0x44 ∷ whole 1 0 2 0x03 ∷ whole 2 0 0 0x45 ∷ [])
    ∷ (whole 1 0 4 0x10 ∷ whole 2 0 0 0x46 ∷ whole 1 0 0 0x47 ∷ whole 4 0 0 0 ∷ whole 4 0 0 0 ∷ [])
    ∷ (whole 5 0 0 0 ∷ whole 2 0 0 0x07 ∷ [])
    ∷ []

-- the bench after each part
abbrev pub benches : Bench → List (List Record) → List Bench
benches b [] = []
benches b (rs ∷ rest) = after_all b rs ∷ benches (after_all b rs) rest

-- in FIFO mode seventeen arrive, and the last is lost; LSR is read, and FCR bit 2 empties a transmit queue: nothing is counted; the mode changes, and the sixteen are
-- dropped; in 16450 mode FCR bit 1 without bit 0 drops nothing; in loopback 42 comes back and replaces 41; a master reset drops it, and not the 43 that was to be sent
abbrev pub second : List (List Record)
second =
    (whole 1 0 3 0x83 ∷ whole 1 0 0 12 ∷ whole 1 0 3 0x03 ∷ whole 1 0 2 0x01 ∷ replicate 17 (whole 2 0 0 0x40))
    ∷ (whole 0 0 5 0 ∷ whole 1 0 0 0x50 ∷ whole 1 0 2 0x05 ∷ [])
    ∷ (whole 1 0 2 0x00 ∷ [])
    ∷ (whole 2 0 0 0x41 ∷ whole 1 0 2 0x02 ∷ [])
    ∷ (whole 1 0 4 0x10 ∷ whole 1 0 0 0x42 ∷ whole 4 0 0 0 ∷ whole 4 0 0 0 ∷ [])
    ∷ (whole 1 0 0 0x43 ∷ whole 5 0 0 0 ∷ [])
    ∷ []

-- the five of seat 0 after each part
abbrev pub told_of : List (List Record) → List (List ℕ)
told_of parts = map (λ (b : Bench). told (five_at 0 b)) (benches power_up parts)

-- ticket 8: "arrived, read, lost by overrun, dropped by emptying, still queued"
pub record FiveMove : Type 0 where
  pub first_lesson : told_of lesson
      ≡ (2 ∷ 0 ∷ 1 ∷ 0 ∷ 1 ∷ []) ∷ (2 ∷ 1 ∷ 1 ∷ 0 ∷ 0 ∷ []) ∷ (5 ∷ 1 ∷ 1 ∷ 2 ∷ 1 ∷ []) ∷ (6 ∷ 1 ∷ 1 ∷ 2 ∷ 2 ∷ []) ∷ (7 ∷ 1 ∷ 1 ∷ 4 ∷ 1 ∷ []) ∷ []
  pub second_lesson : told_of second
      ≡ (17 ∷ 0 ∷ 1 ∷ 0 ∷ 16 ∷ [])
      ∷ (17 ∷ 0 ∷ 1 ∷ 0 ∷ 16 ∷ [])
      ∷ (17 ∷ 0 ∷ 1 ∷ 16 ∷ 0 ∷ [])
      ∷ (18 ∷ 0 ∷ 1 ∷ 16 ∷ 1 ∷ [])
      ∷ (19 ∷ 0 ∷ 2 ∷ 16 ∷ 1 ∷ [])
      ∷ (19 ∷ 0 ∷ 2 ∷ 17 ∷ 0 ∷ [])
      ∷ []

-- ---- at the largest value

-- a record of version 2, of 86 bytes: LCR 03, this MCR, the divisor 1, in the shift register this character or none; arrived and read FFFFFFFF
abbrev pub full : ℕ → ℕ → ℕ → List ℕ
full mcr busy shift =
    (0 ∷ 0 ∷ 0x03 ∷ mcr ∷ 0 ∷ 0 ∷ 0 ∷ 1 ∷ 0 ∷ 0 ∷ 0 ∷ 0 ∷ 0 ∷ 0 ∷ busy ∷ shift ∷ [])
    ++ replicate 50 0
    ++ replicate 8 0xFF
    ++ replicate 12 0

-- an image of version 2: seat 0 outside loopback, seat 1 in loopback with 41 in its shift register, and six seats as at power-up
abbrev pub full_image : List ℕ
full_image = (0x42 ∷ 0x45 ∷ 0x4E ∷ 2 ∷ 0 ∷ []) ++ replicate 11 0 ++ full 0x00 0 0 ++ full 0x10 1 0x41 ++ replicate 516 0

-- ticket 8: "19, last in order, where arrived would pass its largest value": it is read; an arrival at seat 0 and a character time of seat 1 are refused by
-- 19, an arrival with marks 8 by 6, and a character time of seat 0 and an arrival at seat 1, where neither would receive, are not
abbrev pub full_items : List Item
full_items =
    restores full_image 0
    ∷ gives (whole 2 0 0 0x41)
    ∷ gives (whole 4 1 0 0)
    ∷ gives (whole 2 0 8 0x41)
    ∷ gives (whole 4 0 0 0)
    ∷ gives (whole 2 1 0 0x41)
    ∷ []

pub record FullRefused : Type 0 where
  pub numbers : map (λ (o : Outcome). refusal_of o.answer) (item_outcomes power_up full_items) ≡ 0 ∷ 19 ∷ 19 ∷ 6 ∷ 0 ∷ 0 ∷ []
  pub left : map (λ (n : ℕ). told (five_at n (after_items power_up full_items))) (0 ∷ 1 ∷ [])
      ≡ (0xFFFFFFFF ∷ 0xFFFFFFFF ∷ 0 ∷ 0 ∷ 0 ∷ []) ∷ (0xFFFFFFFF ∷ 0xFFFFFFFF ∷ 0 ∷ 0 ∷ 0 ∷ []) ∷ []

-- arrived one below the largest value at seat 0, outside loopback; and at the largest at seat 1, in loopback with nothing in the shift register
abbrev pub nearly : List ℕ
nearly =
    (0 ∷ 0 ∷ 0x03 ∷ 0 ∷ 0 ∷ 0 ∷ 0 ∷ 1 ∷ [])
    ++ replicate 58 0
    ++ (0xFE ∷ 0xFF ∷ 0xFF ∷ 0xFF ∷ 0xFE ∷ 0xFF ∷ 0xFF ∷ 0xFF ∷ [])
    ++ replicate 12 0

abbrev pub nearly_image : List ℕ
nearly_image = (0x42 ∷ 0x45 ∷ 0x4E ∷ 2 ∷ 0 ∷ []) ++ replicate 11 0 ++ nearly ++ full 0x10 0 0 ++ replicate 516 0

abbrev pub nearly_items : List Item
nearly_items = restores nearly_image 0 ∷ gives (whole 2 0 0 0x41) ∷ gives (whole 2 0 0 0x42) ∷ gives (whole 4 1 0 0) ∷ []

-- one more is received, and then none; an idle character time is not refused
abbrev pub NearlyRefused : Type 0
NearlyRefused = map (λ (o : Outcome). refusal_of o.answer) (item_outcomes power_up nearly_items) ≡ 0 ∷ 0 ∷ 19 ∷ 0 ∷ []

-- ---- the premises are met

-- each statement of Tallies speaks of some bench: of the one above, of its records, and of power-up
pub record TalliesMet : Type 0 where
  pub adds_up : KeepsTallies 0 (counting power_up full_items).from (counting power_up full_items).records (after_items power_up full_items)
  pub moves : Moves 1 (after_items power_up full_items)
  pub full : Full 1 (after_items power_up full_items)
  pub without : Without 0 power_up (whole 1 0 3 0x83 ∷ whole 1 0 0 12 ∷ whole 1 0 3 0x03 ∷ whole 2 0 0 0x41 ∷ whole 2 0 0 0x42 ∷ [])
