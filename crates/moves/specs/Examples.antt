-- What moved by examples, as a class reads it.
use Rattle.std.specs.Prelude.{true, false, [], ◌∷◌, ◌≡◌}
use Rattle.text.specs.Quoted.{quoted}
use Rattle.channel.specs.Parts as channel
use Rattle.moves.specs.Moved.{counted, turned, troubles_moved, changes_moved, seat_moved, lines_turned, first_moved}

pub record Examples : Type 0 where
  pub queued : counted (quoted "queued ") 15 16 ≡ quoted "queued 16"
  pub emptied : counted (quoted "to send ") 1 0 ≡ quoted "to send 0"
  pub loaded : turned false true (quoted "shift register loaded") (quoted "shift register empty") ≡ quoted "shift register loaded"
  pub sent : turned true false (quoted "shift register loaded") (quoted "shift register empty") ≡ quoted "shift register empty"
  -- LSR 60, and then 71
  pub broken : troubles_moved 0x60 0x71 ≡ [] ∷ [] ∷ [] ∷ quoted "break set" ∷ []
  pub lost : troubles_moved 0x65 0x63 ≡ quoted "overrun set" ∷ quoted "parity cleared" ∷ [] ∷ [] ∷ []
  -- MSR 40, and then 04: RI has ended
  pub rung : changes_moved 0x40 0x04 ≡ [] ∷ [] ∷ quoted "RI-ended set" ∷ [] ∷ []
  pub read : changes_moved 0x1B 0x10 ≡ quoted "CTS-changed cleared" ∷ quoted "DSR-changed cleared" ∷ [] ∷ quoted "DCD-changed cleared" ∷ []
  pub rises : lines_turned 0x04 0x21 (quoted " rises") (quoted " falls")
      ≡ quoted "line 0 rises" ∷ [] ∷ quoted "line 2 falls" ∷ [] ∷ [] ∷ quoted "line 5 rises" ∷ [] ∷ [] ∷ []
  pub serves : lines_turned 0x80 0x00 (quoted " in service") (quoted " out of service")
      ≡ [] ∷ [] ∷ [] ∷ [] ∷ [] ∷ [] ∷ [] ∷ quoted "line 7 out of service" ∷ []
  pub ranks : first_moved 0 3 ≡ quoted "line 3 ranks first"
  -- of a kind that names no seat, and of a seat above 7
  pub reset : seat_moved channel.power_up channel.power_up 5 0 ≡ []
  pub above : seat_moved channel.power_up channel.power_up 0 8 ≡ []
