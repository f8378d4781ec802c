-- Which seats a state tells of, by docs/TELLING.md: a seat is in use where one of IER, FCR, LCR, MCR, SCRATCH, DLL and DLM is not 0, or a modem
-- level or a change bit is set, or something is in the transmit queue or the shift register, or the holding-empty flag is set, or a character has
-- arrived.
use Rattle.std.specs.Prelude.{ℕ, Bool, not, ◌||◌, eqb}
use Rattle.registers.specs.declared.Settings.{Settings}
use Rattle.transmitter.specs.declared.Transmitter.{Transmitter}
use Rattle.transmitter.specs.Transmitter.{none_waiting}
use Rattle.channel.specs.declared.Modem.{Modem}
use Rattle.seat.specs.declared.Tallies.{Tallies}
use Rattle.seat.specs.declared.Seat.{Seat}

-- "is not 0"
abbrev pub is_set : ℕ → Bool
is_set n = not (eqb n 0)

-- "one of IER, FCR, LCR, MCR, SCRATCH, DLL and DLM is not 0"
unfoldable pub some_setting : Settings → Bool
some_setting s =
    is_set s.ier || is_set s.fcr || is_set s.lcr || is_set s.mcr || is_set s.scratch || is_set s.dll || is_set s.dlm

-- "a modem level or a change bit is set"
unfoldable pub some_modem : Modem → Bool
some_modem m = is_set m.levels || is_set m.changes

-- "something is in the transmit queue or the shift register, or the holding-empty flag is set"
unfoldable pub some_to_send : Transmitter → Bool
some_to_send t = not (none_waiting t) || t.busy || t.flag

-- "a character has arrived"
unfoldable pub some_arrived : Tallies → Bool
some_arrived t = is_set t.arrived

unfoldable pub in_use : Seat → Bool
in_use s =
    some_setting s.channel.settings || some_modem s.channel.modem || some_to_send s.channel.transmitter || some_arrived s.tallies
