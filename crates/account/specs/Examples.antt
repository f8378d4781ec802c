-- Lessons by their pages, as a class reads them: written by hand from docs/TELLING.md, and not by a program.
use Rattle.std.specs.Prelude.{ℕ, suc, List, [], ◌∷◌, ◌++◌, ◌≡◌}
use Rattle.text.specs.Quoted.{quoted}
use Rattle.page.specs.Pages.{shown}
use Rattle.page.specs.Examples.{lines}
use Rattle.records.specs.Events.{Record, whole, short}
use Rattle.bench.specs.declared.Bench.{Bench}
use Rattle.bench.specs.Seats.{power_up}
use Rattle.bench.specs.Steps.{outcome}
use Rattle.account.specs.Told.{told}

-- the pages of some records, without their comments
abbrev pub explained : Bench → ℕ → List Record → List ℕ
explained b n [] = []
explained b n (r ∷ rest) = shown (told b n r []) ++ explained (outcome b r).bench (suc n) rest

-- lesson 1, one character from the wire to the software, and a record that is cut off
abbrev pub WorkedExample : Type 0
WorkedExample =
    explained power_up 0
    (whole 0x07 0 0 0x13
    ∷ whole 0x07 0 1 0x40
    ∷ whole 0x07 0 1 0x01
    ∷ whole 0x01 2 3 0x83
    ∷ whole 0x01 2 0 0x0C
    ∷ whole 0x01 2 3 0x03
    ∷ whole 0x01 2 4 0x08
    ∷ whole 0x01 2 1 0x01
    ∷ whole 0x02 2 0 0x47
    ∷ whole 0x08 0 0 0
    ∷ whole 0x00 2 2 0
    ∷ whole 0x00 2 0 0
    ∷ whole 0x00 2 5 0
    ∷ whole 0x08 0 0 0
    ∷ whole 0x07 0 0 0x20
    ∷ whole 0x00 9 0 0
    ∷ short
    ∷ [])
    ≡ lines
    ("0 0 000 0   controller writes ICW1 13"
    ∷ "1 0 000 0   controller writes ICW2 40"
    ∷ "2 0 000 0   controller writes ICW4 01; controller ready"
    ∷ "3 0 000 0   seat 2 writes LCR 83"
    ∷ "4 0 000 0   seat 2 writes DLL 0C"
    ∷ "5 0 000 0   seat 2 writes LCR 03"
    ∷ "6 0 000 0   seat 2 writes MCR 08"
    ∷ "7 0 000 0   seat 2 writes IER 01"
    ∷ "8 0 000 1   47 'G' arrives at seat 2; queued 1; line 2 rises; output rises"
    ∷ "9 0 042 0   acknowledge; vector 42: line 2; line 2 in service; output falls"
    ∷ "10 0 004 0  seat 2 reads IIR; IIR 04: data"
    ∷ "11 0 047 0  seat 2 reads RBR; RBR 47 'G'; queued 0; line 2 falls"
    ∷ "12 0 060 0  seat 2 reads LSR; LSR 60: holding-empty empty"
    ∷ "13 0 147 0  acknowledge; vector 47: spurious"
    ∷ "14 0 000 0  controller writes OCW2 20; line 2 out of service"
    ∷ "15 1 FFF 0  seat 9 reads RBR; refused 1: seat or line above 7"
    ∷ "16 4 FFF 0  a record cut off; refused 4: record cut off at the end"
    ∷ [])

-- lesson 11, which ingredient of an arrival is refused, as far as the break
abbrev pub Ingredients : Type 0
Ingredients =
    explained power_up 0
    (whole 0x02 5 0x0D 0x21
    ∷ whole 0x01 5 3 0x80
    ∷ whole 0x01 5 0 0x0C
    ∷ whole 0x01 5 3 0x00
    ∷ whole 0x02 5 0x0D 0x21
    ∷ whole 0x02 5 0x05 0x21
    ∷ whole 0x02 5 0x05 0x01
    ∷ whole 0x02 5 0x04 0x01
    ∷ whole 0x00 5 5 0
    ∷ whole 0x02 5 0x04 0x00
    ∷ whole 0x00 5 5 0
    ∷ whole 0x00 5 0 0
    ∷ [])
    ≡ lines
    ("0 5 FFF 0   21 '!' arrives at seat 5 with marks 0D"
    ∷ "            refused 5: arrival or character time while the divisor is 0"
    ∷ "1 0 000 0   seat 5 writes LCR 80"
    ∷ "2 0 000 0   seat 5 writes DLL 0C"
    ∷ "3 0 000 0   seat 5 writes LCR 00"
    ∷ "4 6 FFF 0   21 '!' arrives at seat 5 with marks 0D; refused 6: marks above 7"
    ∷ "5 16 FFF 0  21 '!' arrives at seat 5 with parity break"
    ∷ "            refused 16: data beyond the word length"
    ∷ "6 17 FFF 0  01 arrives at seat 5 with parity break"
    ∷ "            refused 17: parity mark with parity off"
    ∷ "7 18 FFF 0  01 arrives at seat 5 with break; refused 18: break with data not 0"
    ∷ "8 0 060 0   seat 5 reads LSR; LSR 60: holding-empty empty"
    ∷ "9 0 000 0   00 arrives at seat 5 with break; queued 1; break set"
    ∷ "10 0 071 0  seat 5 reads LSR; LSR 71: data break holding-empty empty"
    ∷ "            break cleared"
    ∷ "11 0 000 0  seat 5 reads RBR; RBR 00 with break; queued 0"
    ∷ [])

-- a comment behind a record
abbrev pub Commented : Type 0
Commented =
    shown (told power_up 0 (whole 0x07 0 0 0x13) (quoted "# ICW1: edge mode; ICW4 will follow"))
    ≡ lines ("0 0 000 0   controller writes ICW1 13" ∷ "            # ICW1: edge mode; ICW4 will follow" ∷ [])
