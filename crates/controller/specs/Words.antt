-- The words that are written to the two ports, and what each does.
use Rattle.std.specs.Prelude.{ℕ, ◌*◌, ◌/◌, ◌%◌, Bool, true, false, not, ◌&&◌, eqb, Option, Some, None}
use Rattle.base.specs.Pick.{pick}
use Rattle.base.specs.Bits.{bit}
use Rattle.rank.specs.Sets.{line, only, without}
use Rattle.rank.specs.Rank.{next, first_place}
use Rattle.controller.specs.State.{empty_operation, awaits_icw2, awaits_icw4, after_icw2, with_setup, with_operation, with_mask, with_service, with_first, with_rotation}
use Rattle.controller.specs.Turns.{hinders, found, requests}
use Rattle.controller.specs.declared.Controller.{Controller}
use Rattle.controller.specs.declared.Setup.{Setup}
use Rattle.controller.specs.declared.Operation.{Operation}

-- ---- which word a byte at port 0 is

-- "ICW1 is port 0 with bit 4 set"
abbrev pub is_icw1 : ℕ → Bool
is_icw1 b = bit 4 b

-- "OCW3 (bits 4-3 are 01"; what is left is "OCW2 (bits 4-3 are 00)"
abbrev pub is_ocw3 : ℕ → Bool
is_ocw3 b = not (bit 4 b) && bit 3 b

-- ---- initialisation

-- "ICW1 may come at any time: it clears edge latches, mask, in-service, special mask, automatic end and its rotation,
-- selects the request register for port 0, ranks line 0 first, takes bit 3 as level mode and makes the controller not ready."
-- Not looked at: "as are ICW1 bits 2 and 5-7"
unfoldable pub icw1 : Controller → ℕ → Controller
icw1 c b =
    record {
      lines = record { levels = c.lines.levels; latches = 0 };
      setup = record { stage = 1; level = bit 3 b; base = c.setup.base; automatic = false };
      operation = empty_operation;
    }

-- "ICW2's top five bits are the base."
unfoldable pub icw2 : Setup → ℕ → Setup
icw2 s b = record { stage = after_icw2; level = s.level; base = b / 8 * 8; automatic = s.automatic }

-- "ICW4 bit 1 is automatic end; other bits are ignored"
unfoldable pub icw4 : Setup → ℕ → Setup
icw4 s b = record { stage = 3; level = s.level; base = s.base; automatic = bit 1 b }

-- ---- ends and rank

-- "end line L (bits 2-0)"
unfoldable pub ended : Operation → ℕ → Operation
ended o n = with_service o (without o.service (only n))

-- "make L last"
unfoldable pub made_last : Operation → ℕ → Operation
made_last o n = with_first o (next n)

-- "The plain ends take the first-ranked in-service line"
unfoldable pub served : Operation → Option ℕ
served o = found o.first (first_place o.first (hinders o))

-- "none, nothing changes"
abbrev pub ended_turn : Operation → Option ℕ → Operation
ended_turn o (Some n) = ended o n
ended_turn o None = o

-- "none, nothing changes", and nothing rotates
abbrev pub rotated_turn : Operation → Option ℕ → Operation
rotated_turn o (Some n) = made_last (ended o n) n
rotated_turn o None = o

-- "001 end"
unfoldable pub plain_end : Operation → Operation
plain_end o = ended_turn o (served o)

-- "101 end and make it last-ranked"
unfoldable pub rotating_end : Operation → Operation
rotating_end o = rotated_turn o (served o)

-- "by bits 7-5: 001 end, 101 end and make it last-ranked, 011 end line L (bits 2-0), 111 end L and make L last (in service or not),
-- 110 make L last, 100 and 000 automatic rotation on and off, 010 nothing."
unfoldable pub command : Operation → ℕ → ℕ → Operation
command o k n =
    pick (eqb k 0b001) (plain_end o)
    (pick (eqb k 0b101) (rotating_end o)
    (pick (eqb k 0b011) (ended o n)
    (pick (eqb k 0b111) (made_last (ended o n) n)
    (pick (eqb k 0b110) (made_last o n)
    (pick (eqb k 0b100) (with_rotation o true)
    (pick (eqb k 0b000) (with_rotation o false)
    o))))))

-- "OCW2 (bits 4-3 are 00), by bits 7-5"
unfoldable pub ocw2 : Operation → ℕ → Operation
ocw2 o b = command o (b / 32 % 8) (line b)

-- "bit 7 ignored): bits 6-5 11 special mask on, 10 off; bits 1-0 10 selects requests, 11 in-service."
unfoldable pub ocw3 : Operation → ℕ → Operation
ocw3 o b =
    record {
      mask = o.mask;
      service = o.service;
      first = o.first;
      rotation = o.rotation;
      special = pick (bit 6 b) (bit 5 b) o.special;
      selected = pick (bit 1 b) (bit 0 b) o.selected;
    }

-- ---- the two ports

-- "port 0 with bit 4 set"
unfoldable pub written0 : Controller → ℕ → Controller
written0 c b =
    pick (is_icw1 b) (icw1 c b) (pick (is_ocw3 b) (with_operation c (ocw3 c.operation b)) (with_operation c (ocw2 c.operation b)))

-- "then ICW2 and ICW4 at port 1, then ready"; "Ready: port 1 is the mask, both ways."
unfoldable pub written1 : Controller → ℕ → Controller
written1 c b =
    pick (awaits_icw2 c.setup) (with_setup c (icw2 c.setup b))
    (pick (awaits_icw4 c.setup) (with_setup c (icw4 c.setup b))
    (with_operation c (with_mask c.operation b)))

-- "write controller"
unfoldable pub written : Controller → ℕ → ℕ → Controller
written c port b = pick (eqb port 0) (written0 c b) (written1 c b)

-- "Ready: port 1 is the mask, both ways. Port 0 reads the standing requests, masked or not, or in-service."
unfoldable pub shown : Controller → ℕ → ℕ
shown c port = pick (eqb port 1) c.operation.mask (pick c.operation.selected c.operation.service (requests c))
