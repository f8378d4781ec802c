-- What a controller refuses: each number with its own condition, and the grounds of each signal.
use Rattle.std.specs.Prelude.{ℕ, Bool, false, not, ◌&&◌, ◌||◌, List, [], ◌∷◌, eqb, ltb}
use Rattle.base.specs.Bits.{bit}
use Rattle.base.specs.Refusals.{seat_above_number, number_above_number, not_ready_number, not_served_number, Ground, refusal_by}
use Rattle.controller.specs.State.{ready, begun, awaits_icw4}
use Rattle.controller.specs.Signals.{Signal, levels, read, write, acknowledge}
use Rattle.controller.specs.Words.{is_icw1, is_ocw3}
use Rattle.controller.specs.declared.Setup.{Setup}

-- 1: "seat (or line) above 7"
abbrev pub line_above : ℕ → Bool
line_above n = ltb 7 n

-- 2: "port above 1"
abbrev pub port_above : Signal → Bool
port_above (levels high) = false
port_above (read port) = ltb 1 port
port_above (write port b) = ltb 1 port
port_above acknowledge = false

-- 8: "controller not ready: any read, an acknowledge, a port 0 write without bit 4, or a port 1 write before any accepted ICW1"
abbrev pub not_ready : Setup → Signal → Bool
not_ready s (levels high) = false
not_ready s (read port) = not (ready s)
not_ready s (write port b) = not (ready s) && (eqb port 0 && not (bit 4 b) || eqb port 1 && not (begun s))
not_ready s acknowledge = not (ready s)

-- "ICW1 with bit 0 or bit 1 clear": the test of ICW1
abbrev pub icw1_served : ℕ → Bool
icw1_served b = bit 0 b && bit 1 b

-- 9: "not served: ICW1 with bit 0 or bit 1 clear; ICW4 with bit 0 clear; OCW3 with bit 2 set"
abbrev pub not_served : Setup → Signal → Bool
not_served s (levels high) = false
not_served s (read port) = false
not_served s (write port b) =
    eqb port 0 && is_icw1 b && not (icw1_served b)
    || eqb port 1 && awaits_icw4 s && not (bit 0 b)
    || eqb port 0 && is_ocw3 b && bit 2 b
not_served s acknowledge = false

-- the grounds of each signal: "register above 7, port above 1" of a read and a write; "controller not ready"; of a write, "not served"
unfoldable pub grounds : Setup → Signal → List Ground
grounds s (levels high) = []
grounds s (read port) = record { number = number_above_number; holds = port_above (read port) } ∷ record { number = not_ready_number; holds = not_ready s (read port) } ∷ []
grounds s (write port b) =
    record { number = number_above_number; holds = port_above (write port b) }
    ∷ record { number = not_ready_number; holds = not_ready s (write port b) }
    ∷ record { number = not_served_number; holds = not_served s (write port b) }
    ∷ []
grounds s acknowledge = record { number = not_ready_number; holds = not_ready s acknowledge } ∷ []

-- the number that a controller gives, 0 for none
unfoldable pub refusal : Setup → Signal → ℕ
refusal s signal = refusal_by (grounds s signal)

-- "line above 7 gives refusal 1"
unfoldable pub place_refusal : ℕ → ℕ
place_refusal n = refusal_by (record { number = seat_above_number; holds = line_above n } ∷ [])
