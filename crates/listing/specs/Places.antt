-- The records by their places in the input, which is how the code comes to them.
use Rattle.std.specs.Prelude.{ℕ, ◌+◌, ◌-◌, ◌/◌, ◌%◌, Bool, not, ◌&&◌, List, ltb, leb, eqb, length, get_or}
use Rattle.base.specs.Pick.{pick}
use Rattle.records.specs.Events.{Record, whole, short}
use Rattle.bench.specs.declared.Bench.{Bench}
use Rattle.listing.specs.Run.{line_of}

-- the record at a place: short where fewer than four bytes are left
unfoldable pub record_at : List ℕ → ℕ → Record
record_at s at =
    pick (ltb (length s - at) 4) short
    (whole (get_or s at 0) (get_or s (at + 1) 0) (get_or s (at + 2) 0) (get_or s (at + 3) 0))

-- how many records stand in so many bytes
unfoldable pub record_count : Bool → ℕ → ℕ
record_count last bytes = pick (last && not (eqb (bytes % 4) 0)) (bytes / 4 + 1) (bytes / 4)

-- the line of record n has room from a place on
abbrev pub room_at : Bench → ℕ → Record → List ℕ → ℕ → Bool
room_at b n r d place = leb (place + length (line_of b n r)) (length d)
