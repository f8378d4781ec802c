-- Where the parts of an image stand, counted from its place in the lent buffer.
use Rattle.std.specs.Prelude.{ℕ, ◌+◌, ◌*◌, List, take, drop}
use Rattle.records.specs.Events.{seat_count}
use Rattle.channel_image.specs.Places.{at}
use Rattle.seat_image.specs.Read.{length_of, new_record}
use Rattle.seat_image.specs.Written.{record_length}

-- ticket 2: "the three letters `BEN`, a 16-bit version (1, low byte first)"
abbrev pub header_length : ℕ
header_length = 5

-- ticket 2: "the controller"
abbrev pub controller_length : ℕ
controller_length = 11

-- header and controller
abbrev pub front_length : ℕ
front_length = header_length + controller_length

-- ticket 2: "then eight seat records of one fixed length": where seat k's begins, in the newest version
abbrev pub record_place : ℕ → ℕ
record_place k = front_length + record_length * k

abbrev pub image_length : ℕ
image_length = record_place seat_count

-- ---- by the version

-- ticket 2: "a 16-bit version (1, low byte first)"
unfoldable pub version_of : List ℕ → ℕ
version_of p = at p 3 + 256 * at p 4

-- where seat k's record begins, in any version
unfoldable pub place_in : ℕ → ℕ → ℕ
place_in version k = front_length + length_of version * k

abbrev pub length_in : ℕ → ℕ
length_in version = place_in version seat_count

-- ticket 2: "Each seat record goes into its own stretch of the buffer": seat k's, in the layout of the newest version
unfoldable pub stretch : List ℕ → ℕ → List ℕ
stretch p k = new_record (version_of p) (drop (place_in (version_of p) k) p)

-- the bytes of the controller
abbrev pub controller_part : List ℕ → List ℕ
controller_part p = take controller_length (drop header_length p)

-- ---- the controller's fields, from the place of the first

-- how far the initialisation is
abbrev pub stage_place : ℕ
stage_place = 0

-- level mode
abbrev pub level_place : ℕ
level_place = 1

abbrev pub base_place : ℕ
base_place = 2

-- the first-ranked line
abbrev pub first_place : ℕ
first_place = 3

abbrev pub mask_place : ℕ
mask_place = 4

-- the lines in service
abbrev pub service_place : ℕ
service_place = 5

-- special mask mode
abbrev pub special_place : ℕ
special_place = 6

-- automatic end
abbrev pub automatic_place : ℕ
automatic_place = 7

-- its rotation
abbrev pub rotation_place : ℕ
rotation_place = 8

-- port 0 reads in-service
abbrev pub selected_place : ℕ
selected_place = 9

-- the edge latches
abbrev pub latches_place : ℕ
latches_place = 10
