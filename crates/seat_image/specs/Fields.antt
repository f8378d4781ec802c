-- What refusal 15 asks of the bytes of a seat's record, row by row: the places are numbers here, and neither the reader nor its tests are looked at.
use Rattle.std.specs.Prelude.{ℕ, ◌+◌, ◌*◌, ◌≤◌, true, List, ◌≡◌, take}
use Rattle.channel_image.specs.Fields.{byte_at, Fields}
use Rattle.seat_image.specs.Read.{record_good}

-- the number in four bytes from a place on, the low byte first
abbrev pub word : List ℕ → ℕ → ℕ
word l k = byte_at l k + 256 * byte_at l (k + 1) + 65536 * byte_at l (k + 2) + 16777216 * byte_at l (k + 3)

pub record SeatFields (l : List ℕ) : Type 0 where
  -- the channel's rows
  pub channel : Fields (take 66 l)
  -- ticket 8: "15 also for tallies that do not add up": read, lost, dropped and queued to arrived, whose largest value no sum passes
  pub sum : word l 70 + word l 74 + word l 78 + word l 82 ≡ word l 66
  pub arrived : word l 66 ≤ 0xFFFFFFFF
  -- ticket 8: "or miscount the queue"
  pub queued : word l 82 ≡ byte_at l 33

-- and these are all: a record is good exactly if it has them
pub record Exactly : Type 0 where
  pub needed : (l : List ℕ) → record_good l ≡ true → SeatFields l
  pub enough : (l : List ℕ) → SeatFields l → record_good l ≡ true
