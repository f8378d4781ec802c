-- The receive side of a seat: what befalls it, whether it is sound, and one that a character was slipped into.
use Rattle.std.specs.Prelude.{suc, Bool, List, [], ◌∷◌, ◌++◌, ◌==◌}
use Rattle.base.specs.Pick.{pick}
use Rattle.receiver.specs.Ledger.{Moment, Side}
use Rattle.receiver.specs.Ledger as moment
use Rattle.receiver.specs.Sound.{sound_receiver}
use Rattle.registers.specs.declared.SeatEvent.{SeatEvent}
use Rattle.channel.specs.Parts.{with_receiver}
use Rattle.channel.specs.Moments as channel
use Rattle.seat.specs.declared.Seat.{Seat}
use Rattle.seat.specs.Seats.{with_channel}
use Rattle.seat.specs.Steps.{refusal}
use Rattle.seat.specs.Acts.{Act, event, resets, acted}

-- the receive side of its channel, with its mode
abbrev pub side : Seat → Side
side s = channel.side s.channel

-- what an event on the seat is to that side; "The answer of every refusal is FFF and nothing changes."
abbrev pub moments_of : Seat → SeatEvent → List Moment
moments_of s e = pick (refusal s e == 0) (channel.accepted_moments s.channel e) []

-- and what any act is
abbrev pub befalls_by : Seat → Act → List Moment
befalls_by s (event e) = moments_of s e
befalls_by s resets = moment.resets ∷ []

-- what befalls it by some acts, one after the other
abbrev pub befalling : Seat → List Act → List Moment
befalling s [] = []
befalling s (a ∷ rest) = befalls_by s a ++ befalling (acted s a) rest

-- its receive side is sound
abbrev pub receives_soundly : Seat → Bool
receives_soundly s = sound_receiver (side s).fifo (side s).receiver

-- the seat with one character more in its receive queue
abbrev pub one_more : Seat → Seat
one_more s =
    with_channel s
    (with_receiver s.channel
    (record {
      queue = record { slots = (side s).receiver.queue.slots; count = suc (side s).receiver.queue.count };
      overrun = (side s).receiver.overrun;
      kept = (side s).receiver.kept;
      timeout = (side s).receiver.timeout;
      last = (side s).receiver.last;
    }))
