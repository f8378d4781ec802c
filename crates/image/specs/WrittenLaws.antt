-- The length of an image, and one turn of its writer.
use Rattle.std.specs.Prelude.{ℕ, zero, suc, ◌+◌, ◌-◌, ◌*◌, ◌≤◌, ◌≡◌, refl, get_or}
use mathlib.Core.List.{List, ◌++◌}
use Rattle.std.proofs.Math.Path.{ap, sym}
use Rattle.std.proofs.Common.{◌∙◌, add-one, arith, length-append, length-take, length-drop, le-leb}
use Rattle.std.proofs.Math.ListN.{length, take, drop}
use Rattle.std.proofs.Math.Seq.{sets}
use Rattle.base.specs.Pick.{pick}
use Rattle.base.specs.PickLaws.{pick_true}
use Rattle.base.specs.StoreLaws.{sets_append, lent_stored}
use Rattle.seat.specs.declared.Seat.{Seat}
use Rattle.seat.specs.Seats.{no_seat}
use Rattle.records.specs.Events.{seat_count}
use Rattle.bench.specs.declared.Bench.{Bench}
use Rattle.seat_image.specs.Written.{record_length}
use Rattle.seat_image.specs.Written.{record_of, has_room}
use Rattle.seat_image.proofs.BackLaws.{record_length_lem}
use Rattle.image.specs.Layout.{image_length}
use Rattle.image.specs.Written.{controller_bytes, records_of, image_of}

pub records_length : (n : ℕ) (seats : List Seat) → length (records_of n seats) ≡ record_length * n
unfolding records_of
records_length zero seats = refl
records_length (suc n) seats =
    rw (length-append (records_of n seats), records_length n seats, record_length_lem (get_or seats n no_seat)) (omega arith)

records_more : (n : ℕ) (seats : List Seat) → records_of (n + 1) seats ≡ records_of n seats ++ record_of (get_or seats n no_seat)
unfolding records_of
records_more n seats = rw (add-one n)

-- ticket 2: "eight seat records of one fixed length": so is the image
pub image_length_lem : (b : Bench) → length (image_of b) ≡ image_length
unfolding image_of controller_bytes
image_length_lem b = omega (arith, records_length seat_count b.seats)

-- ticket 2: "Each seat record goes into its own stretch of the buffer": the part from the seat's offset on comes back with the record at its
-- start
module _ (at k : ℕ) (seats : List Seat) (l₀ l part : List ℕ) where
  place : ℕ
  place = at + record_length * k

  own : List ℕ
  own = record_of (get_or seats k no_seat)

  pub turn : l ≡ sets l₀ at (records_of k seats) → record_length ≤ length l - (at + record_length * k)
      → part
      ≡ pick (has_room (take (length l - (at + record_length * k)) (drop (at + record_length * k) l)))
      (sets (take (length l - (at + record_length * k)) (drop (at + record_length * k) l)) 0 (record_of (get_or seats k no_seat)))
      (take (length l - (at + record_length * k)) (drop (at + record_length * k) l))
      → take (at + record_length * k) l ++ (part ++ drop (length l - (at + record_length * k)) (drop (at + record_length * k) l))
      ≡ sets l₀ at (records_of (k + 1) seats)
  unfolding place own
  turn before fits put =
      let lent = take (length l - place) (drop place l) in
      let room : record_length ≤ length lent = simp (length-take, length-drop) (omega arith) in
      let stored : part ≡ sets lent 0 own = put ∙ pick_true _ _ _ (le-leb record_length (length lent) room) in
      ap (λ (m : List ℕ). take place l ++ (m ++ drop (length l - place) (drop place l))) stored
      ∙ lent_stored place l own
      ∙ ap (λ (m : List ℕ). sets m place own) before
      ∙ sym (rw (records_more k seats, sets_append (records_of k seats) own l₀ at, records_length k seats))
