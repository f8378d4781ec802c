-- Closed instances of laws, each false under a slip of `must-fail`, which names it.
use mathlib.Core.Path.{◌≡◌, refl}
use lib.ListN.{set, replicate}
use Rattle.base.specs.Bits.{bit, digit, bits}
use Rattle.base.specs.Pick.{pick}
use Rattle.queue.specs.Queue.{capacity}
use Rattle.registers.specs.Registers.{fcr_kept}
use Rattle.channel_image.specs.Allowed.{sixteen_small, registers_in_range, flags_in_range, marks_in_range, queues_within, count_allowed, unused_zero, channel_good}
use Rattle.seat.specs.Tallies.{add_up}
use Rattle.seat_image.specs.Read.{tallies_from, tallies_good, record_good}
use Rattle.seat_image.specs.Words.{word_at}

-- `exactly` (`queued`): one arrived and is said to be queued, and the queue is empty
none_queued_lem : digit (record_good (set (set (replicate 86 0) 66 1) 82 1)) ≡ 0
unfolding record_good tallies_good tallies_from word_at add_up channel_good registers_in_range flags_in_range marks_in_range queues_within count_allowed unused_zero sixteen_small fcr_kept capacity bits digit bit pick
none_queued_lem = refl
