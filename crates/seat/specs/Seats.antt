-- A seat: what stands there at power-up and after a master reset, its line, and its five tallies.
use Rattle.std.specs.Prelude.{ℕ, Bool, false, [], ◌∷◌}
use Rattle.receiver.specs.Ledger.{resets}
use Rattle.channel.specs.declared.Channel.{Channel}
use Rattle.channel.specs.Parts.{master_reset}
use Rattle.channel.specs.Parts as channel
use Rattle.channel.specs.Moments.{side}
use Rattle.channel.specs.Status as channel-status
use Rattle.seat.specs.declared.Seat.{Seat}
use Rattle.seat.specs.declared.Five.{Five}
use Rattle.seat.specs.Tallies.{no_tallies, tallied}

-- what stands where there is no seat
abbrev pub no_seat : Seat
no_seat =
    record {
      tallies = no_tallies;
      channel =
          record {
            settings = record { ier = 0; fcr = 0; lcr = 0; mcr = 0; scratch = 0; dll = 0; dlm = 0 };
            receiver = record { queue = record { slots = []; count = 0 }; overrun = false; kept = 0; timeout = 0; last = 0 };
            transmitter = record { queue = record { slots = []; count = 0 }; busy = false; shift = 0; flag = false };
            modem = record { levels = 0; changes = 0 };
          };
    }

-- the seat with another channel: what stands beside the channel stays
abbrev pub with_channel : Seat → Channel → Seat
with_channel s c = record { tallies = s.tallies; channel = c }

-- "Power-up": the channel's, and ticket 8: "tallies of received characters since power-up"
abbrev pub power_up : Seat
power_up = record { tallies = no_tallies; channel = channel.power_up }

-- "master reset of all eight seats": of each of them, its channel's; ticket 8: "a master reset drops"
abbrev pub reset : Seat → Seat
reset s = record { tallies = tallied s.tallies (side s.channel) (resets ∷ []); channel = master_reset s.channel }

-- "Seat n is one serial channel; its interrupt output is line n of one 8259A."
abbrev pub line : Seat → Bool
line s = channel-status.line s.channel

-- ticket 8: "still queued": how many the receive queue holds
abbrev pub queued : Seat → ℕ
queued s = s.channel.receiver.queue.count

-- ticket 8: "Beside each channel stand five 32-bit tallies": four are kept, and the fifth is the queue's own number
abbrev pub five : Seat → Five
five s =
    record {
      arrived = s.tallies.arrived;
      read = s.tallies.read;
      lost = s.tallies.lost;
      dropped = s.tallies.dropped;
      queued = queued s;
    }
