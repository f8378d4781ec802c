-- The bench that an image says: of the bytes from its place on.
use Rattle.std.specs.Prelude.{ℕ, Bool, List, drop, Option, Some, None, is_some, unwrap_or}
use Rattle.base.specs.Every.{every}
use Rattle.base.specs.ListLaws.{listed}
use Rattle.base.specs.Pick.{pick}
use Rattle.seat.specs.declared.Seat.{Seat}
use Rattle.seat.specs.Seats.{power_up}
use Rattle.controller.specs.declared.Controller.{Controller}
use Rattle.records.specs.Events.{seat_count}
use Rattle.bench.specs.declared.Bench.{Bench}
use Rattle.bench.specs.Seats.{lines}
use Rattle.channel_image.specs.Places.{at, yes_at}
use Rattle.seat_image.specs.Read.{found}
use Rattle.image.specs.Layout.{version_of, place_in, controller_part, stage_place, level_place, base_place, first_place, mask_place, service_place, special_place, automatic_place, rotation_place, selected_place, latches_place}

-- what seat k's record says, by the version of the image
abbrev pub record_at : List ℕ → ℕ → Option Seat
record_at p k = found (version_of p) (drop (place_in (version_of p) k) p)

-- that seat; where there is none, a seat at power-up stands for it
abbrev pub seat_at : List ℕ → ℕ → Seat
seat_at p k = unwrap_or (record_at p k) power_up

abbrev pub good_at : List ℕ → ℕ → Bool
good_at p k = is_some (record_at p k)

-- the seats, and whether each record says one
unfoldable pub seats_in : List ℕ → List Seat
seats_in p = listed seat_count (seat_at p)

unfoldable pub seats_good : List ℕ → Bool
seats_good p = every seat_count (good_at p)

unfoldable pub records_from : List ℕ → Option (List Seat)
records_from p = pick (seats_good p) (Some (seats_in p)) None

-- a controller, whose lines are at these levels
unfoldable pub controller_from : List ℕ → ℕ → Controller
controller_from l levels =
    record {
      lines = record { levels = levels; latches = at l latches_place };
      setup = record { stage = at l stage_place; level = yes_at l level_place; base = at l base_place; automatic = yes_at l automatic_place };
      operation =
          record {
            mask = at l mask_place;
            service = at l service_place;
            first = at l first_place;
            rotation = yes_at l rotation_place;
            special = yes_at l special_place;
            selected = yes_at l selected_place;
          };
    }

-- the bench: its lines are those of the seats just read. Nothing is settled, so a line that is high with its latch clear stays so
unfoldable pub bench_from : List ℕ → Bench
bench_from p =
    record {
      seats = seats_in p;
      controller = controller_from (controller_part p) (lines (seats_in p));
    }
