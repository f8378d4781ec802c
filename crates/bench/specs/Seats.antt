-- Eight seats and the controller: power-up, the doors to a seat, and the lines.
use Rattle.std.specs.Prelude.{ℕ, ◌%◌, List, map, get_or, set, replicate}
use Rattle.base.specs.Bits.{bits}
use Rattle.seat.specs.declared.Seat.{Seat}
use Rattle.seat.specs.Seats.{no_seat, line}
use Rattle.seat.specs.Seats as one
use Rattle.controller.specs.declared.Controller.{Controller}
use Rattle.controller.specs.State as controller
use Rattle.records.specs.Events.{seat_count}
use Rattle.bench.specs.declared.Bench.{Bench}

-- "Power-up": every seat at power-up, and the controller
abbrev pub power_up : Bench
power_up = record { seats = replicate seat_count one.power_up; controller = controller.power_up }

-- a number of a seat, read round all of them, so that both doors below are total; the bench refuses what no seat has before it comes here
abbrev pub chair : ℕ → ℕ
chair n = n % seat_count

-- the one door in: seat n
unfoldable pub seat : Bench → ℕ → Seat
seat b n = get_or b.seats (chair n) no_seat

-- and the one door back: the bench with another seat n
unfoldable pub with_seat : Bench → ℕ → Seat → Bench
with_seat b n s = record { seats = set b.seats (chair n) s; controller = b.controller }

-- the bench with another controller
abbrev pub with_controller : Bench → Controller → Bench
with_controller b c = record { seats = b.seats; controller = c }

-- "Seat n is one serial channel; its interrupt output is line n of one 8259A.": the lines of some seats as a set
unfoldable pub lines : List Seat → ℕ
lines seats = bits (map line seats)
