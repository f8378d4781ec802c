-- The state of a controller: power-up, the stages of its initialisation, and its parts one by one.
use Rattle.std.specs.Prelude.{ℕ, Bool, false, ◌||◌, eqb}
use Rattle.controller.specs.declared.Controller.{Controller}
use Rattle.controller.specs.declared.Lines.{Lines}
use Rattle.controller.specs.declared.Setup.{Setup}
use Rattle.controller.specs.declared.Operation.{Operation}

-- "all is 0 and line 0 ranks first": the part that the operation words and the grants move
abbrev pub empty_operation : Operation
empty_operation = record { mask = 0; service = 0; first = 0; rotation = false; special = false; selected = false }

-- "At power-up it is not ready; all is 0 and line 0 ranks first."
abbrev pub power_up : Controller
power_up =
    record {
      lines = record { levels = 0; latches = 0 };
      setup = record { stage = 0; level = false; base = 0; automatic = false };
      operation = empty_operation;
    }

-- "ICW1 is port 0 with bit 4 set; then ICW2 and ICW4 at port 1, then ready."
abbrev pub awaits_icw2 : Setup → Bool
awaits_icw2 s = eqb s.stage 1

-- "and ICW4 at port 1"
abbrev pub awaits_icw4 : Setup → Bool
awaits_icw4 s = eqb s.stage 2

-- "then ready"
abbrev pub ready : Setup → Bool
ready s = eqb s.stage 3

-- "then ICW2 and ICW4": the stage after ICW2
abbrev pub after_icw2 : ℕ
after_icw2 = 2

-- "before any accepted ICW1" is what this is not
abbrev pub begun : Setup → Bool
begun s = awaits_icw2 s || awaits_icw4 s || ready s

-- one part anew
abbrev pub with_lines : Controller → Lines → Controller
with_lines c l = record { lines = l; setup = c.setup; operation = c.operation }

abbrev pub with_setup : Controller → Setup → Controller
with_setup c s = record { lines = c.lines; setup = s; operation = c.operation }

abbrev pub with_operation : Controller → Operation → Controller
with_operation c o = record { lines = c.lines; setup = c.setup; operation = o }

-- one field of the operation part anew
abbrev pub with_mask : Operation → ℕ → Operation
with_mask o m = record { mask = m; service = o.service; first = o.first; rotation = o.rotation; special = o.special; selected = o.selected }

abbrev pub with_service : Operation → ℕ → Operation
with_service o s = record { mask = o.mask; service = s; first = o.first; rotation = o.rotation; special = o.special; selected = o.selected }

abbrev pub with_first : Operation → ℕ → Operation
with_first o n = record { mask = o.mask; service = o.service; first = n; rotation = o.rotation; special = o.special; selected = o.selected }

abbrev pub with_rotation : Operation → Bool → Operation
with_rotation o b = record { mask = o.mask; service = o.service; first = o.first; rotation = b; special = o.special; selected = o.selected }
