-- Pages of a controller by examples, line by line as a class sees them.
use Prim.Native.String.{String}
use Rattle.std.specs.Prelude.{true, false, List, [], ◌∷◌, ◌≡◌}
use Rattle.page.specs.Pages.{shown}
use Rattle.page.specs.Examples.{lines}
use Rattle.controller.specs.declared.Controller.{Controller}
use Rattle.controller.specs.State.{power_up}
use Rattle.controller_page.specs.ControllerPages.{controller_page}

abbrev pub Told : Controller → List String → Type 0
Told c told = shown (controller_page c) ≡ lines told

-- level mode, with everything on: line 3 is in service and masked, and does not hinder line 5
abbrev pub busy : Controller
busy =
    record {
      lines = record { levels = 0x24; latches = 0x04 };
      setup = record { stage = 3; level = true; base = 0x40; automatic = true };
      operation = record { mask = 0x08; service = 0x08; first = 3; rotation = true; special = true; selected = true };
    }

-- edge mode, between ICW1 and ICW2: a latch is set, all lines are masked, and line 7 ranks first
abbrev pub begun : Controller
begun =
    record {
      lines = record { levels = 0xFF; latches = 0x80 };
      setup = record { stage = 1; level = false; base = 0xF8; automatic = false };
      operation = record { mask = 0xFF; service = 0; first = 7; rotation = false; special = false; selected = false };
    }

pub record Examples : Type 0 where
  pub at_first :
      Told power_up
      ("            controller: not ready; edge mode; base 00; requests 00: no line"
      ∷ "            mask 00: no line; in service 00: no line; rank 0 1 2 3 4 5 6 7"
      ∷ "            output low"
      ∷ [])
  pub all_on :
      Told busy
      ("            controller: ready; level mode; base 40; requests 24: lines 2 5"
      ∷ "            mask 08: line 3; in service 08: line 3; rank 3 4 5 6 7 0 1 2"
      ∷ "            special mask; automatic end; rotation; port 0 reads in service"
      ∷ "            output high"
      ∷ [])
  pub masked :
      Told begun
      ("            controller: not ready; edge mode; base F8; requests 80: line 7"
      ∷ "            mask FF: lines 0 1 2 3 4 5 6 7; in service 00: no line"
      ∷ "            rank 7 0 1 2 3 4 5 6; output low"
      ∷ [])
