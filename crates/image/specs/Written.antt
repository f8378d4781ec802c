-- The whole bench as the bytes of an image.
use Rattle.std.specs.Prelude.{ℕ, zero, suc, ◌-◌, ◌/◌, ◌%◌, Bool, ◌&&◌, List, [], ◌∷◌, ◌++◌, ◌≡◌, leb, length, get_or}
use Rattle.std.proofs.lemmas.List.Edits.{sets}
use Rattle.base.specs.declared.Answer.{Answer}
use Rattle.base.specs.declared.Answer.TheVariants.{Done, Refused}
use Rattle.base.specs.Bits.{digit}
use Rattle.base.specs.Pick.{pick}
use Rattle.base.specs.Refusals.{no_room_number}
use Rattle.controller.specs.declared.Controller.{Controller}
use Rattle.seat.specs.declared.Seat.{Seat}
use Rattle.seat.specs.Seats.{no_seat}
use Rattle.records.specs.Events.{seat_count}
use Rattle.bench.specs.declared.Bench.{Bench}
use Rattle.text.specs.Quoted.{quoted}
use Rattle.seat_image.specs.Written.{record_of}
use Rattle.image.specs.Layout.{image_length}

-- the newest version that the bench knows, which is the one it writes
abbrev pub newest : ℕ
newest = 2

-- ticket 2: "the three letters `BEN`, a 16-bit version (1, low byte first)"; ticket 8: "the saved bench becomes version 2"
abbrev pub header : List ℕ
header = quoted "BEN" ++ (newest % 256 ∷ newest / 256 ∷ [])

-- ticket 2: "the controller"; its lines follow from the seats, and are not told
unfoldable pub controller_bytes : Controller → List ℕ
controller_bytes c =
    c.setup.stage
    ∷ digit c.setup.level
    ∷ c.setup.base
    ∷ c.operation.first
    ∷ c.operation.mask
    ∷ c.operation.service
    ∷ digit c.operation.special
    ∷ digit c.setup.automatic
    ∷ digit c.operation.rotation
    ∷ digit c.operation.selected
    ∷ c.lines.latches
    ∷ []

-- the records of the first n seats, one behind the other
unfoldable pub records_of : ℕ → List Seat → List ℕ
records_of zero seats = []
records_of (suc n) seats = records_of n seats ++ record_of (get_or seats n no_seat)

-- ticket 2: "House format: the three letters `BEN`, a 16-bit version (1, low byte first), the controller, then eight seat records of one fixed
-- length."
unfoldable pub image_of : Bench → List ℕ
image_of b = header ++ controller_bytes b.controller ++ records_of seat_count b.seats

-- so many bytes stand in the buffer from a place on
abbrev pub room_for : ℕ → List ℕ → ℕ → Bool
room_for n l at = leb at (length l) && leb n (length l - at)

-- ticket 2: "Write the whole bench into a lent buffer at a place the caller names"; "bytes outside the image stay"; "12 no room". The buffer
-- was `l` and is `l'` then
pub record Saves (b : Bench) (at : ℕ) (l l' : List ℕ) (r : Answer) : Type 0 where
  pub answer : r ≡ pick (room_for image_length l at) Done (Refused no_room_number)
  pub bytes : l' ≡ pick (room_for image_length l at) (sets l at (image_of b)) l
