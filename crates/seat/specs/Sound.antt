-- What holds of a seat from power-up on: a test, which a seat that is read back can be put to.
use Rattle.std.specs.Prelude.{Bool, ◌&&◌}
use Rattle.channel.specs.Sound.{sound_channel}
use Rattle.seat.specs.declared.Seat.{Seat}
use Rattle.seat.specs.Seats.{queued}
use Rattle.seat.specs.Tallies.{add_up}

-- its channel is sound, and ticket 8: "the other four add up to it"
abbrev pub sound : Seat → Bool
sound s = sound_channel s.channel && add_up s.tallies (queued s)
