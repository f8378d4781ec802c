-- A closed instance of a law, false under the slip of must-fail/.
use mathlib.Core.Bool.{true}
use mathlib.Core.Path.{◌≡◌, refl}
use Rattle.transmitter.specs.Transmitter.{none_waiting}
use Rattle.channel.specs.Parts.{power_up, with_modem}
use Rattle.seat.specs.Seats as seat
use Rattle.seat_page.specs.Using.{some_setting, some_modem, some_to_send, some_arrived, in_use}

-- `idle_as_at_power_up`: RI has been given, and nothing else
levels_are_asked : in_use (seat.with_channel seat.power_up (with_modem power_up (record { levels = 4; changes = 0 }))) ≡ true
unfolding in_use some_setting some_modem some_to_send some_arrived none_waiting
levels_are_asked = refl
