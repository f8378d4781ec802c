-- A seat written and read, and a record read and written.
use Rattle.std.specs.Prelude.{ℕ, ◌<◌, ◌≤◌, Bool, true, false, List, ◌++◌, ◌≡◌, length, take, drop, Some, None}
use Rattle.channel.specs.declared.Channel.{Channel}
use Rattle.channel.specs.Sound.{sound_channel}
use Rattle.channel_image.specs.Fields.{byte_at}
use Rattle.channel_image.specs.Written.{channel_bytes}
use Rattle.seat.specs.declared.Seat.{Seat}
use Rattle.seat.specs.Sound.{sound}
use Rattle.seat_image.specs.Read.{length_of, new_record, seat_from, record_good, found}
use Rattle.seat_image.specs.Written.{tally_bytes, record_of, Put}

-- ticket 2: "A bench read back answers every later event as the saved one.": a sound seat is found as it was written, whatever stands
-- behind its record
abbrev pub ReadBack : Type 0
ReadBack = (s : Seat) (rest : List ℕ) → sound s ≡ true → found 2 (record_of s ++ rest) ≡ Some s

-- a good record is written back as it was read
abbrev pub WrittenBack : Type 0
WrittenBack = (l : List ℕ) → length l ≡ 86 → ((k : ℕ) → byte_at l k < 256) → record_good l ≡ true → record_of (seat_from l) ≡ l

-- and says a sound seat
abbrev pub SaysSound : Type 0
SaysSound = (l : List ℕ) → record_good l ≡ true → sound (seat_from l) ≡ true

-- ---- the versions

pub record Older : Type 0 where
  pub first_66 : length_of 1 ≡ 66
  pub newest_86 : length_of 2 ≡ 86
  -- ticket 8: "version 1 reads with arrived equal to what is queued": and none of those is read, lost or dropped
  pub read : (c : Channel) (rest : List ℕ) → sound_channel c ≡ true
      → found 1 (channel_bytes c ++ rest)
      ≡ Some (record { tallies = record { arrived = c.receiver.queue.count; read = 0; lost = 0; dropped = 0 }; channel = c })
  -- a record of version 1 is written back with these behind it
  pub written : (l : List ℕ) (s : Seat) → length l ≡ 66 → found 1 l ≡ Some s
      → record_of s ≡ l ++ tally_bytes (record { arrived = byte_at l 33; read = 0; lost = 0; dropped = 0 }) (byte_at l 33)
  -- of version 2 the record is the first 86 bytes, as they are
  pub whole : (l : List ℕ) → new_record 2 l ≡ take 86 l

-- ---- what is lent

pub record Lent : Type 0 where
  -- with room, the record stands at the start, and what is behind it stays
  pub room : (s : Seat) (l l' : List ℕ) (r : Bool) → Put s l l' r → 86 ≤ length l
      → (r ≡ true) × ((take 86 l' ≡ record_of s) × (drop 86 l' ≡ drop 86 l))
  -- without, all of it stays, and nothing is found
  pub none : (s : Seat) (l l' : List ℕ) (r : Bool) → Put s l l' r → length l < 86 → (r ≡ false) × (l' ≡ l)
  pub short : (version : ℕ) (l : List ℕ) → length l < length_of version → found version l ≡ None
