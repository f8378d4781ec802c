-- What an accepted event does to the five tallies, event by event.
use Rattle.std.specs.Prelude.{◌+◌, ◌-◌, not, ◌&&◌, ◌||◌, ◌==◌, nat_le}
use Rattle.base.specs.Pick.{pick}
use Rattle.base.specs.Bits.{bit}
use Rattle.queue.specs.Queue.{capacity}
use Rattle.registers.specs.declared.SeatEvent.{SeatEvent}
use Rattle.registers.specs.declared.SeatEvent.TheVariants.{Read, Write, Arrival, Levels, Time}
use Rattle.channel.specs.declared.Channel.{Channel}
use Rattle.channel.specs.Parts.{fifo, in_loopback}
use Rattle.channel.specs.Effects.{mode_changed}
use Rattle.seat.specs.declared.Five.{Five}

-- one character is received: it is queued, or where the queue is full one is lost; ticket 8: "Replaced characters count as overrun"
abbrev pub one_arrived : Channel → Five → Five
one_arrived c f =
    pick (nat_le (capacity (fifo c)) f.queued)
    (record { arrived = f.arrived + 1; read = f.read; lost = f.lost + 1; dropped = f.dropped; queued = f.queued })
    (record { arrived = f.arrived + 1; read = f.read; lost = f.lost; dropped = f.dropped; queued = f.queued + 1 })

-- the oldest is read; from an empty queue none is
abbrev pub one_read : Five → Five
one_read f =
    pick (f.queued == 0) f
    (record { arrived = f.arrived; read = f.read + 1; lost = f.lost; dropped = f.dropped; queued = f.queued - 1 })

-- ticket 8: "dropped by emptying": all that are queued
abbrev pub all_dropped : Five → Five
all_dropped f = record { arrived = f.arrived; read = f.read; lost = f.lost; dropped = f.dropped + f.queued; queued = 0 }

-- a read of RBR reads one; a write of FCR with bits 0 and 1 set, or with bit 0 changed, drops all; ticket 8: "a loopback reception counts as arrived, an
-- outside arrival in loopback does not"
abbrev pub moved : Channel → Five → SeatEvent → Five
moved c f (Read number) = pick (number == 0 && not (bit 7 c.settings.lcr)) (one_read f) f
moved c f (Write number byte) = pick (number == 2 && ((bit 0 byte && bit 1 byte) || mode_changed c byte)) (all_dropped f) f
moved c f (Arrival marks byte) = pick (in_loopback c) f (one_arrived c f)
moved c f (Levels levels) = f
moved c f Time = pick (in_loopback c && c.transmitter.busy) (one_arrived c f) f
