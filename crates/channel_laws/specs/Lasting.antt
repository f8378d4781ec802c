-- Which events on a seat end a time-out.
use Rattle.std.specs.Prelude.{Bool, false, not, ◌&&◌, ◌||◌, eqb}
use Rattle.base.specs.Bits.{bit}
use Rattle.receiver.specs.Receiver.{none_queued}
use Rattle.registers.specs.declared.SeatEvent.{SeatEvent}
use Rattle.registers.specs.declared.SeatEvent.TheVariants.{Read, Write, Arrival, Levels, Time}
use Rattle.channel.specs.declared.Channel.{Channel}
use Rattle.channel.specs.Effects.{mode_changed}

-- a read of register 0 with LCR bit 7 clear, where a character is queued, and a write of register 2 with bits 0 and 1 set, or with bit 0 changed.
-- Ticket 5: "a time-out that has happened is cleared by reading a character"; document 01: "bit 1 empties the receive queue", "A changed bit 0 empties both"
unfoldable pub ending_event : Channel → SeatEvent → Bool
ending_event c (Read n) = eqb n 0 && (not (bit 7 c.settings.lcr) && not (none_queued c.receiver))
ending_event c (Write n byte) = eqb n 2 && ((bit 0 byte && bit 1 byte) || mode_changed c byte)
ending_event c (Arrival marks byte) = false
ending_event c (Levels levels) = false
ending_event c Time = false
