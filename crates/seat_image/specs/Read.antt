-- The seat that a record says, in each version.
use Rattle.std.specs.Prelude.{ℕ, Bool, ◌&&◌, List, ◌++◌, eqb, leb, length, take, drop, Option, Some, None}
use Rattle.base.specs.Pick.{pick}
use Rattle.channel_image.specs.Allowed.{channel_good}
use Rattle.channel_image.specs.Places.{at, channel_length, received_place}
use Rattle.channel_image.specs.Read.{channel_from}
use Rattle.seat.specs.declared.Seat.{Seat}
use Rattle.seat.specs.declared.Tallies.{Tallies}
use Rattle.seat.specs.Tallies.{add_up}
use Rattle.seat_image.specs.Words.{word_at}
use Rattle.seat_image.specs.Written.{record_length, tally_bytes}

-- ---- by the version

-- ticket 8: "the saved bench becomes version 2": from it on a record has tallies
abbrev pub has_tallies : ℕ → Bool
has_tallies version = leb 2 version

-- how long a record is
abbrev pub length_of : ℕ → ℕ
length_of version = pick (has_tallies version) record_length channel_length

-- the channel's part of a record, and that of the tallies
abbrev pub channel_part : List ℕ → List ℕ
channel_part l = take 66 l

abbrev pub tally_part : List ℕ → List ℕ
tally_part l = take 20 (drop 66 l)

-- ticket 8: "version 1 reads with arrived equal to what is queued"
abbrev pub queued_only : ℕ → Tallies
queued_only still = record { arrived = still; read = 0; lost = 0; dropped = 0 }

-- the tallies' part of a record of a version, with so many queued: its own, or what its version leaves unsaid
unfoldable pub tallies_in : ℕ → List ℕ → ℕ → List ℕ
tallies_in version l still = pick (has_tallies version) (tally_part l) (tally_bytes (queued_only still) still)

-- a record of a version in the layout of the newest
unfoldable pub new_record : ℕ → List ℕ → List ℕ
new_record version l = channel_part l ++ tallies_in version l (at (channel_part l) received_place)

-- ---- in the layout of the newest

-- four of the five tallies, from their part of a record
unfoldable pub tallies_from : List ℕ → Tallies
tallies_from b = record { arrived = word_at b 0; read = word_at b 4; lost = word_at b 8; dropped = word_at b 12 }

-- ticket 8: "15 also for tallies that do not add up or miscount the queue": they do neither
unfoldable pub tallies_good : List ℕ → ℕ → Bool
tallies_good b still = add_up (tallies_from b) (word_at b 16) && eqb (word_at b 16) still

-- the tallies that their part of a record says, with so many queued, or none
unfoldable pub tallies_told : List ℕ → ℕ → Option Tallies
tallies_told b still = pick (tallies_good b still) (Some (tallies_from b)) None

unfoldable pub seat_from : List ℕ → Seat
seat_from l = record { tallies = tallies_from (tally_part l); channel = channel_from (channel_part l) }

-- a record says a seat where each of its conditions holds
unfoldable pub record_good : List ℕ → Bool
record_good l = channel_good (channel_part l) && tallies_good (tally_part l) (at (channel_part l) received_place)

-- ---- in a lent part

-- the seat of the record that a lent part begins with, or none; what stands behind the record is not looked at
unfoldable pub found : ℕ → List ℕ → Option Seat
found version l = pick (leb (length_of version) (length l) && record_good (new_record version l)) (Some (seat_from (new_record version l))) None
