-- What is refused of an image, in order, and what a restore leaves.
use Rattle.std.specs.Prelude.{ℕ, ◌%◌, Bool, not, ◌&&◌, List, [], ◌∷◌, ◌++◌, eqb, leb, ltb, length, Option, Some, None}
use Rattle.base.specs.declared.Answer.TheVariants.{Done, Refused}
use Rattle.base.specs.Pick.{pick}
use Rattle.base.specs.Refusals.{Ground, no_room_number, wrong_mark_number, unknown_version_number, no_such_bench_number, first_held, joined}
use Rattle.controller.specs.Valid.{latches_high}
use Rattle.bench.specs.declared.Bench.{Bench}
use Rattle.bench.specs.Seats.{lines}
use Rattle.channel_image.specs.Places.{at}
use Rattle.image.specs.declared.Restored.{Restored}
use Rattle.image.specs.Layout.{header_length, length_in, version_of, controller_part, stage_place, level_place, base_place, first_place, special_place, automatic_place, rotation_place, selected_place, latches_place}
use Rattle.image.specs.Read.{seats_in, seats_good, bench_from}
use Rattle.image.specs.Written.{newest}

-- ticket 2: "the three letters `BEN`"
unfoldable pub marked : List ℕ → Bool
marked p = eqb (at p 0) 0x42 && eqb (at p 1) 0x45 && eqb (at p 2) 0x4E

-- a version that the bench reads: from 1 to the newest
abbrev pub known : ℕ → Bool
known version = leb 1 version && leb version newest

-- ticket 2: "a field outside its range in document 01 (MCR to 0F, yes-or-no to 1)": the controller's fields are within theirs. Its base has the low
-- three bits clear
unfoldable pub controller_in_range : List ℕ → Bool
controller_in_range l =
    leb (at l stage_place) 3 && leb (at l level_place) 1 && eqb (at l base_place % 8) 0 && leb (at l first_place) 7 && leb (at l special_place) 1
    && leb (at l automatic_place) 1
    && leb (at l rotation_place) 1
    && leb (at l selected_place) 1

-- ticket 2: "a latch set on a low line": none is, of the lines of the seats just read, in level mode too
unfoldable pub latches_allowed : List ℕ → Bool
latches_allowed p = latches_high (record { levels = lines (seats_in p); latches = at (controller_part p) latches_place })

-- each of the conditions holds, of the records, the controller and the latches
unfoldable pub image_good : List ℕ → Bool
image_good p = seats_good p && controller_in_range (controller_part p) && latches_allowed p

-- the bench of an image, where it may be
unfoldable pub body_of : List ℕ → Option Bench
body_of p = pick (image_good p) (Some (bench_from p)) None

-- ticket 2: "12 no room or below 5 bytes, 13 wrong mark, 14 unknown version, 12 shorter than its version"
abbrev pub header_grounds : List ℕ → List Ground
header_grounds p =
    record { number = no_room_number; holds = ltb (length p) header_length }
    ∷ record { number = wrong_mark_number; holds = not (marked p) }
    ∷ record { number = unknown_version_number; holds = not (known (version_of p)) }
    ∷ record { number = no_room_number; holds = ltb (length p) (length_in (version_of p)) }
    ∷ []

-- ticket 2: "15 exactly for"
abbrev pub body_grounds : List ℕ → List Ground
body_grounds p = record { number = no_such_bench_number; holds = not (image_good p) } ∷ []

-- ticket 2: "Refusals, in order: 12 no room or below 5 bytes, 13 wrong mark, 14 unknown version, 12 shorter than its version, 15"
abbrev pub grounds : List ℕ → List Ground
grounds p = header_grounds p ++ body_grounds p

-- the number that is given
unfoldable pub refusal : List ℕ → ℕ
refusal p = first_held (grounds p)

-- ticket 2: "read it back next week"; "each leaves buffer and bench untouched"
unfoldable pub restored : Bench → List ℕ → Restored
restored b p = joined (refusal p) (record { bench = bench_from p; answer = Done }) (λ n. record { bench = b; answer = Refused n })
