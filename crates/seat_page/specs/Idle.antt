-- What a seat is that is not in use.
use Rattle.std.specs.Prelude.{ℕ, Bool, true, false, ◌≡◌}
use Rattle.queue.specs.Queue.{empty_queue}
use Rattle.transmitter.specs.Transmitter.{still}
use Rattle.seat.specs.declared.Seat.{Seat}
use Rattle.seat.specs.Seats.{power_up}
use Rattle.seat.specs.Sound.{sound}
use Rattle.seat.specs.Tallies.{no_tallies}
use Rattle.seat_page.specs.Using.{in_use}

abbrev pub PowerUpIdle : Type 0
PowerUpIdle = in_use power_up ≡ false

-- the seat at power-up, but for what only a character that arrived can leave behind: overrun, kept marks and the last byte read
abbrev pub quiet_but : Bool → ℕ → ℕ → Seat
quiet_but overrun kept last =
    record {
      tallies = no_tallies;
      channel =
          record {
            settings = record { ier = 0; fcr = 0; lcr = 0; mcr = 0; scratch = 0; dll = 0; dlm = 0 };
            receiver = record { queue = empty_queue; overrun = overrun; kept = kept; timeout = 0; last = last };
            transmitter = still;
            modem = record { levels = 0; changes = 0 };
          };
    }

-- a sound seat that is not in use has nothing else that a state would tell
abbrev pub IdleAsAtPowerUp : Type 0
IdleAsAtPowerUp =
    (s : Seat) → sound s ≡ true → in_use s ≡ false
    → s ≡ quiet_but s.channel.receiver.overrun s.channel.receiver.kept s.channel.receiver.last
