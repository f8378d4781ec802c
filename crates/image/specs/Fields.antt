-- What refusal 15 asks of the bytes of an image, row by row: the places are numbers here, and the reader's tests are not looked at. For the
-- latches a line is that of the seat which the record says.
use Rattle.std.specs.Prelude.{ℕ, ◌%◌, ◌<◌, ◌≤◌, true, List, ◌≡◌, length}
use Rattle.base.specs.Bits.{bit}
use Rattle.seat.specs.Seats.{line}
use Rattle.channel_image.specs.Fields.{byte_at}
use Rattle.seat_image.specs.Fields.{SeatFields}
use Rattle.seat_image.specs.Read.{seat_from}
use Rattle.image.specs.Layout.{length_in, version_of, stretch}
use Rattle.image.specs.Refusals.{image_good}

-- ticket 2: "a field outside its range in document 01 (MCR to 0F, yes-or-no to 1), a queue beyond its capacity, a time-out count above 0 in
-- 16450 mode or with nothing queued, a latch set on a low line, or an unused byte not 0": of an image none of it. Ticket 7: "A saved MCR may now be up to 1F."
pub record ImageFields (p : List ℕ) : Type 0 where
  -- the controller's ranges
  pub stage : byte_at p 5 ≤ 3
  pub level : byte_at p 6 ≤ 1
  pub base : byte_at p 7 % 8 ≡ 0
  pub first : byte_at p 8 ≤ 7
  pub special : byte_at p 11 ≤ 1
  pub automatic : byte_at p 12 ≤ 1
  pub rotation : byte_at p 13 ≤ 1
  pub selected : byte_at p 14 ≤ 1
  -- each seat's own, with what its version leaves unsaid. Ticket 8: "15 also for tallies that do not add up or miscount the queue"
  pub seats : (n : ℕ) → n < 8 → SeatFields (stretch p n)
  -- a latch that is set stands on a line that is high, as the seat just read has it, in either mode
  pub latches : (n : ℕ) → n < 8 → bit n (byte_at p 15) ≡ true → line (seat_from (stretch p n)) ≡ true

-- and these are all: an image that is long enough is good exactly if it has them
pub record Exactly : Type 0 where
  pub needed : (p : List ℕ) → length_in (version_of p) ≤ length p → image_good p ≡ true → ImageFields p
  pub enough : (p : List ℕ) → length_in (version_of p) ≤ length p → ImageFields p → image_good p ≡ true
