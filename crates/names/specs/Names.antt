-- The one table of words: what registers, bits, causes and refusals are called wherever a lesson is told. Header, manual and usage have the same
-- words.
use Rattle.std.specs.Prelude.{ℕ, List, [], ◌∷◌}
use Prim.Native.String.{String}

-- ---- words by a number

pub record Row : Type 0 where
  pub number : ℕ
  pub words : String

abbrev pub row : ℕ → String → Row
row number words = record { number = number; words = words }

-- "NAME is the register's: of a read RBR, IER, IIR, LCR, MCR, LSR, MSR, SCRATCH"
abbrev pub registers_read : List Row
registers_read =
    row 0 "RBR"
    ∷ row 1 "IER"
    ∷ row 2 "IIR"
    ∷ row 3 "LCR"
    ∷ row 4 "MCR"
    ∷ row 5 "LSR"
    ∷ row 6 "MSR"
    ∷ row 7 "SCRATCH"
    ∷ []

-- "of a write THR and FCR for RBR and IIR"
abbrev pub registers_written : List Row
registers_written = row 0 "THR" ∷ row 2 "FCR" ∷ []

-- "with LCR bit 7 set DLL and DLM for numbers 0 and 1"
abbrev pub registers_divisor : List Row
registers_divisor = row 0 "DLL" ∷ row 1 "DLM" ∷ []

-- "IIR bits 3 to 0"
abbrev pub cause_words : List Row
cause_words =
    row 0x6 "line trouble"
    ∷ row 0x4 "data"
    ∷ row 0xC "time-out"
    ∷ row 0x2 "transmit queue empty"
    ∷ row 0x0 "modem input changed"
    ∷ []

-- "any other"
abbrev pub no_cause : String
no_cause = "no cause"

-- the refusals of document 01
abbrev pub refusals_first : List Row
refusals_first =
    row 1 "seat or line above 7"
    ∷ row 2 "register above 7, port above 1"
    ∷ row 3 "kind above 8"
    ∷ row 4 "record cut off at the end"
    ∷ row 5 "arrival or character time while the divisor is 0"
    ∷ row 6 "marks above 7"
    ∷ row 7 "modem levels above 15"
    ∷ row 8 "controller not ready"
    ∷ row 9 "not served (cascaded controllers, 8080 mode, poll)"
    ∷ row 10 "rate or clock not in the divisor list"
    ∷ []

-- and those of document 02. By 10 to 15 no record is refused: they are of the divisor list, of settings lines and of saved benches
abbrev pub refusals_later : List Row
refusals_later =
    row 11 "no settings line, or an LCR byte that none gives"
    ∷ row 12 "lent buffer too short"
    ∷ row 13 "wrong mark"
    ∷ row 14 "unknown version"
    ∷ row 15 "a saved bench that cannot be"
    ∷ row 16 "data beyond the word length"
    ∷ row 17 "parity mark with parity off"
    ∷ row 18 "break with data not 0"
    ∷ row 19 "reception that no tally can hold"
    ∷ []

-- of a number that is none
abbrev pub no_refusal : String
no_refusal = "no refusal"

-- ---- words of bits, the lowest first

-- "LSR bits 0 to 7"
abbrev pub lsr_words : List String
lsr_words = "data" ∷ "overrun" ∷ "parity" ∷ "framing" ∷ "break" ∷ "holding-empty" ∷ "empty" ∷ "marked" ∷ []

-- "MSR bits 0 to 7"
abbrev pub msr_words : List String
msr_words = "CTS-changed" ∷ "DSR-changed" ∷ "RI-ended" ∷ "DCD-changed" ∷ "CTS" ∷ "DSR" ∷ "RI" ∷ "DCD" ∷ []

-- "marks 0 to 2"
abbrev pub mark_words : List String
mark_words = "parity" ∷ "framing" ∷ "break" ∷ []

-- "levels 0 to 3"
abbrev pub level_words : List String
level_words = "CTS" ∷ "DSR" ∷ "RI" ∷ "DCD" ∷ []

-- the lines, by their numbers
abbrev pub line_numbers : List String
line_numbers = "0" ∷ "1" ∷ "2" ∷ "3" ∷ "4" ∷ "5" ∷ "6" ∷ "7" ∷ []
