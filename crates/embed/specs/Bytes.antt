-- The bytes of a bench: four for every tally, and one for every other number and every yes or no, part by part.
use Rattle.std.specs.Prelude.{ℕ, ◌+◌, ◌*◌}
use Rattle.records.specs.Events.{seat_count}

-- sixteen characters of two bytes, and the count
abbrev pub queue_bytes : ℕ
queue_bytes = 16 * 2 + 1

-- ticket 8: "five 32-bit tallies", of which four are kept
abbrev pub tallies_bytes : ℕ
tallies_bytes = 4 * 4

-- ticket 8: "five 32-bit tallies", as they are handed out
abbrev pub five_bytes : ℕ
five_bytes = 5 * 4

-- settings, receiver, transmitter and modem side
abbrev pub channel_bytes : ℕ
channel_bytes = 7 + (queue_bytes + 4) + (queue_bytes + 3) + 2

-- the tallies lie at a multiple of four in every seat, so two bytes that are no field's end it
abbrev pub seat_bytes : ℕ
seat_bytes = tallies_bytes + channel_bytes + 2

-- lines, setup and operation
abbrev pub controller_bytes : ℕ
controller_bytes = 2 + 4 + 6

-- all the seats, behind which the controller lies
abbrev pub seats_bytes : ℕ
seats_bytes = seat_count * seat_bytes

abbrev pub bench_bytes : ℕ
bench_bytes = seats_bytes + controller_bytes
