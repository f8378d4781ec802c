-- Closed instances of laws, each false under a slip of `must-fail`, which names it.
use mathlib.Core.Path.{◌≡◌, refl}
use lib.ListN.{set, replicate}
use Rattle.base.specs.Bits.{bit, digit, bits}
use Rattle.base.specs.Pick.{pick}
use Rattle.queue.specs.Queue.{capacity}
use Rattle.registers.specs.Registers.{fcr_kept}
use Rattle.channel_image.specs.Allowed.{sixteen_small, registers_in_range, flags_in_range, marks_in_range, queues_within, count_allowed, unused_zero, channel_good}

-- `exactly` (`counted_queued`): FIFO mode, a time-out count of 4, and nothing received
nothing_waits : digit (channel_good (set (set (replicate 66 0) 1 0x01) 13 4)) ≡ 0
unfolding channel_good registers_in_range flags_in_range marks_in_range queues_within count_allowed unused_zero sixteen_small fcr_kept capacity bits digit bit pick
nothing_waits = refl
