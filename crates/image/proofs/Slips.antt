-- Closed instances of laws, each false under a slip of `must-fail`, which names it.
use mathlib.Core.List.{◌∷◌}
use mathlib.Core.Path.{◌≡◌, refl}
use lib.ListN.{set, replicate}
use Rattle.base.specs.Bits.{bit, digit, bits}
use Rattle.base.specs.Pick.{pick}
use Rattle.queue.specs.Queue.{capacity}
use Rattle.registers.specs.Registers.{fcr_kept}
use Rattle.seat.specs.Tallies.{add_up}
use Rattle.channel_image.specs.Allowed.{sixteen_small, registers_in_range, flags_in_range, marks_in_range, queues_within, count_allowed, unused_zero, channel_good}
use Rattle.channel_image.specs.Read.{channel_from}
use Rattle.seat_image.specs.Read.{found, new_record, tallies_in, tallies_from, tallies_good, seat_from, record_good}
use Rattle.seat_image.specs.Words.{word_bytes, word_at}
use Rattle.seat_image.specs.Written.{tally_bytes}
use Rattle.image.specs.Layout.{version_of, place_in}
use Rattle.image.specs.Read.{seat_at, controller_from}

-- `no_edge`: the line of seat 0 is high, and the image has no latch
high_line_unlatched : (controller_from (replicate 11 0) 0x01).lines.latches ≡ 0
unfolding controller_from
high_line_unlatched = refl

-- `found_at`: the first two records of an image of version 1, with 5A and A5 in the scratch registers; seat 1 has the second
read_from_its_own_record : (seat_at (set (set (0x42 ∷ 0x45 ∷ 0x4E ∷ 1 ∷ replicate 144 0) 21 0x5A) 87 0xA5) 1).channel.settings.scratch ≡ 0xA5
unfolding version_of place_in found new_record tallies_in tallies_from tallies_good seat_from record_good tally_bytes word_bytes word_at add_up channel_from channel_good registers_in_range flags_in_range marks_in_range queues_within count_allowed unused_zero sixteen_small fcr_kept capacity bits digit bit pick
read_from_its_own_record = refl
