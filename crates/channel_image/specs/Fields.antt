-- What refusal 15 asks of the bytes of a channel, row by row: the places are numbers here, the limits document 01's, and neither the
-- reader nor its tests are looked at.
use Rattle.std.specs.Prelude.{ℕ, ◌+◌, ◌<◌, ◌≤◌, Bool, true, false, ◌||◌, List, [], ◌∷◌, ◌≡◌, eqb, get_or}
use Rattle.channel_image.specs.Allowed.{channel_good}

-- a number is one of these
abbrev pub among : ℕ → List ℕ → Bool
among n [] = false
among n (m ∷ ms) = eqb n m || among n ms

-- "Bit 0 clear: 16450 mode, queues of 1, all FCR bits 0. Bit 0 set: FIFO mode, queues of 16, bits 7-6 choose trigger 1, 4, 8 or 14, bit 3 is
-- stored": all that the FCR can hold
abbrev pub fcr_values : List ℕ
fcr_values = 0x00 ∷ 0x01 ∷ 0x09 ∷ 0x41 ∷ 0x49 ∷ 0x81 ∷ 0x89 ∷ 0xC1 ∷ 0xC9 ∷ []

-- the byte at a place
abbrev pub byte_at : List ℕ → ℕ → ℕ
byte_at l k = get_or l k 0

-- ticket 2: "a field outside its range in document 01 (MCR to 0F, yes-or-no to 1), a queue beyond its capacity, a time-out count above 0 in
-- 16450 mode or with nothing queued, a latch set on a low line, or an unused byte not 0": of these bytes none of it, the latch aside
pub record Fields (l : List ℕ) : Type 0 where
  -- the ranges
  pub ier : byte_at l 0 ≤ 0x0F
  pub fcr : among (byte_at l 1) fcr_values ≡ true
  -- ticket 7: "A saved MCR may now be up to 1F."
  pub mcr : byte_at l 3 ≤ 0x1F
  pub changes : byte_at l 4 ≤ 0x0F
  pub levels : byte_at l 6 ≤ 0x0F
  pub overrun : byte_at l 10 ≤ 1
  pub kept : byte_at l 11 ≤ 7
  pub flag : byte_at l 12 ≤ 1
  pub timeout : byte_at l 13 ≤ 4
  pub busy : byte_at l 14 ≤ 1
  pub marks : (k : ℕ) → k < 16 → byte_at l (50 + k) ≤ 7
  -- the capacities: of one in 16450 mode, and of sixteen
  pub waiting_one : byte_at l 1 ≡ 0 → byte_at l 16 ≤ 1
  pub waiting : byte_at l 16 ≤ 16
  pub received_one : byte_at l 1 ≡ 0 → byte_at l 33 ≤ 1
  pub received : byte_at l 33 ≤ 16
  -- the time-out count
  pub counted_fifo : byte_at l 1 ≡ 0 → byte_at l 13 ≡ 0
  pub counted_queued : byte_at l 33 ≡ 0 → byte_at l 13 ≡ 0
  -- the unused bytes
  pub shift : byte_at l 14 ≡ 0 → byte_at l 15 ≡ 0
  pub outgoing_unused : (k : ℕ) → byte_at l 16 ≤ k → k < 16 → byte_at l (17 + k) ≡ 0
  pub arrived_unused : (k : ℕ) → byte_at l 33 ≤ k → k < 16 → byte_at l (34 + k) ≡ 0
  pub marks_unused : (k : ℕ) → byte_at l 33 ≤ k → k < 16 → byte_at l (50 + k) ≡ 0

-- and these are all: the bytes are good exactly if they have them
pub record Exactly : Type 0 where
  pub needed : (l : List ℕ) → channel_good l ≡ true → Fields l
  pub enough : (l : List ℕ) → Fields l → channel_good l ≡ true
