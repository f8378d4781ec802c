-- No part of demand 3 can be left out: what it would say with a smaller number, or with one signal more allowed.
use Rattle.std.specs.Prelude.{ℕ, ◌<◌, Bool, false, List, ◌≡◌, ◌⊎◌}
use Rattle.controller.specs.Signals.{Signal, levels, write, acknowledge}
use Rattle.controller.specs.declared.Controller.{Controller}
use Rattle.turn.specs.Runs.{answers}
use Rattle.turn.specs.Waiting.{Start, May, WaitsBy}
use Rattle.turn.specs.Demand3.{NamedBy}

-- the end of the demand by any rule of what may come, and with any number
abbrev pub NamedWithin : (ℕ → Bool → Signal → Type 0) → ℕ → Type 0
NamedWithin may k = (c : Controller) (t : ℕ) (signals : List Signal) → Start c t → WaitsBy may t false c signals → NamedBy k c t (answers c signals)

-- The tender: the eighth acknowledge at the latest. No earlier one can be promised
abbrev pub NoSooner : Type 0
NoSooner = NamedWithin May 8 × ((k : ℕ) → k < 8 → NamedWithin May k → ⊥)

-- the tender's rule, and one signal more
abbrev pub Also : Signal → ℕ → Bool → Signal → Type 0
Also more t owed signal = May t owed signal ⊎ (signal ≡ more)

-- with it allowed, the eighth acknowledge need not name the line
abbrev pub Harmful : Signal → Type 0
Harmful more = NamedWithin (Also more) 8 → ⊥

-- One signal against each of the tender's premises: every grant is followed by one rotating non-specific end before the next acknowledge; its
-- line stays high and unmasked; no initialisation, set-priority, special-mask, rotation off, or other end command. (Rotation on and special
-- mask off do no harm from the tender's start; it bars them all the same)
pub record NothingMore : Type 0 where
  pub end_owed : Harmful acknowledge
  pub line_falls : Harmful (levels 0x7F)
  pub line_masked : Harmful (write 1 0x80)
  pub initialisation : Harmful (write 0 0x13)
  pub set_priority : Harmful (write 0 0xC7)
  pub special_mask : Harmful (write 0 0x68)
  pub rotation_off : Harmful (write 0 0x00)
  pub plain_end : Harmful (write 0 0x20)
  pub specific_end : Harmful (write 0 0x60)
  pub specific_rotating_end : Harmful (write 0 0xE7)
