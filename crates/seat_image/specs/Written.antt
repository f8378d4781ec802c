-- A seat as the bytes of its record, in the newest version.
use Rattle.std.specs.Prelude.{ℕ, Bool, List, ◌++◌, ◌≡◌, leb, length}
use Rattle.std.proofs.lemmas.List.Edits.{sets}
use Rattle.base.specs.Pick.{pick}
use Rattle.channel_image.specs.Written.{channel_bytes}
use Rattle.seat.specs.declared.Seat.{Seat}
use Rattle.seat.specs.declared.Tallies.{Tallies}
use Rattle.seat.specs.Seats.{queued}
use Rattle.seat_image.specs.Words.{word_bytes}

-- ticket 2: "eight seat records of one fixed length"
abbrev pub record_length : ℕ
record_length = 86

-- ticket 8: "five 32-bit tallies of received characters since power-up: arrived, read, lost by overrun, dropped by emptying, still queued"
unfoldable pub tally_bytes : Tallies → ℕ → List ℕ
tally_bytes t still = word_bytes t.arrived ++ word_bytes t.read ++ word_bytes t.lost ++ word_bytes t.dropped ++ word_bytes still

-- ticket 8: "They enter the shared seat record": behind the channel's bytes
unfoldable pub record_of : Seat → List ℕ
record_of s = channel_bytes s.channel ++ tally_bytes s.tallies (queued s)

-- a lent part has room for a record
abbrev pub has_room : List ℕ → Bool
has_room l = leb record_length (length l)

-- ticket 2: "Each seat record goes into its own stretch of the buffer": at the start of the part that is lent for it, which was `l` and is `l'`
-- then; without room it stays
pub record Put (s : Seat) (l l' : List ℕ) (r : Bool) : Type 0 where
  pub answer : r ≡ has_room l
  pub bytes : l' ≡ pick (has_room l) (sets l 0 (record_of s)) l
