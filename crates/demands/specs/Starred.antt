-- The twelve starred cases: one list, over whole benches from power-up.
use Rattle.std.specs.Prelude.{ℕ, zero, suc, Bool, true, ◌&&◌, List, [], ◌∷◌, ◌++◌, ◌≡◌, eqb, length}
use Rattle.base.specs.Bits.{digit}
use Rattle.base.specs.Answers.{refusal_of, value_of}
use Rattle.controller.specs.Steps.{placed}
use Rattle.records.specs.Events.{whole}
use Rattle.bench.specs.declared.Bench.{Bench}
use Rattle.bench.specs.declared.Outcome.{Outcome}
use Rattle.bench.specs.Seats.{power_up}
use Rattle.bench.specs.Steps.{outcome}

-- a line of a case: a record that must be accepted; one with the answer and the output that it must give; a line and its place in turn
pub data Line : Type 0 where
  does : ℕ → ℕ → ℕ → ℕ → Line
  gives : ℕ → ℕ → ℕ → ℕ → ℕ → ℕ → Line
  ranks : ℕ → ℕ → Line

-- an outcome has this answer and this output
abbrev pub answers : Outcome → ℕ → ℕ → Bool
answers o value out = eqb (value_of o.answer) value && eqb (digit o.output) out

-- a case holds from this bench on
unfoldable pub holds : Bench → List Line → Bool
holds b [] = true
holds b (does k s n v ∷ ls) = eqb (refusal_of (outcome b (whole k s n v)).answer) 0 && holds (outcome b (whole k s n v)).bench ls
holds b (gives k s n v value out ∷ ls) = answers (outcome b (whole k s n v)) value out && holds (outcome b (whole k s n v)).bench ls
holds b (ranks n place ∷ ls) = eqb (value_of (placed b.controller n)) place && holds b ls

-- ---- seat 0, register by register

abbrev pub writes : ℕ → ℕ → Line
writes register byte = does 1 0 register byte

abbrev pub reads : ℕ → ℕ → Line
reads register byte = gives 0 0 register 0 byte 0

abbrev pub arrives : ℕ → ℕ → Line
arrives marks byte = does 2 0 marks byte

-- "Cases 2 to 7 first set divisor 12 and LCR 03"
unfoldable pub set_up_lem : List Line
set_up_lem = writes 3 0x83 ∷ writes 0 12 ∷ writes 1 0 ∷ writes 3 0x03 ∷ []

-- "cases 3 to 5 FCR 81"
unfoldable pub set_up_fifo : List Line
set_up_fifo = set_up_lem ++ (writes 2 0x81 ∷ [])

-- so many arrivals, with bytes from this one on; and so many reads that give them
unfoldable pub arrivals : ℕ → ℕ → List Line
arrivals zero byte = []
arrivals (suc n) byte = arrives 0 byte ∷ arrivals n (suc byte)

unfoldable pub reads_of : ℕ → ℕ → List Line
reads_of zero byte = []
reads_of (suc n) byte = reads 0 byte ∷ reads_of n (suc byte)

-- ---- the controller, and lines that rise by real seat events: MCR 08, IER 08, and a modem input that changes

-- "9 to 12 use base 40, edge mode without automatic end"
unfoldable pub initialised : List Line
initialised = does 7 0 0 0x13 ∷ does 7 0 1 0x40 ∷ does 7 0 1 0x01 ∷ []

unfoldable pub rises : ℕ → List Line
rises n = does 1 n 4 0x08 ∷ does 1 n 1 0x08 ∷ does 3 n 0 1 ∷ []

-- line 3 has risen and been granted
unfoldable pub served_3 : List Line
served_3 = initialised ++ (rises 3 ++ (gives 8 0 0 0 0x043 0 ∷ []))

abbrev pub cases : List (List Line)
cases =
    -- "★ 1. Power-up: LSR 60, IIR 01, MSR 00."
    (reads 5 0x60 ∷ reads 2 0x01 ∷ reads 6 0x00 ∷ [])
    -- "★ 2. 16450, arrivals 41 and 42: LSR 63, RBR 42."
    ∷ (set_up_lem ++ (arrives 0 0x41 ∷ arrives 0 0x42 ∷ reads 5 0x63 ∷ reads 0 0x42 ∷ []))
    -- "★ 3. FIFO, 17 arrivals: LSR 63; sixteen reads give the first 16."
    ∷ (set_up_fifo ++ (arrivals 17 1 ++ (reads 5 0x63 ∷ reads_of 16 1)))
    -- "★ 4. IER 01, trigger 8: seven arrivals IIR C1, eighth C4."
    ∷ (set_up_fifo ++ (writes 1 0x01 ∷ arrivals 7 1 ++ (reads 2 0xC1 ∷ arrives 0 8 ∷ reads 2 0xC4 ∷ [])))
    -- "★ 5. IER 01, seven arrivals, four character times: CC; one RBR read: C1."
    ∷ (set_up_fifo
    ++ (writes 1 0x01 ∷ arrivals 7 1 ++ (does 4 0 0 0 ∷ does 4 0 0 0 ∷ does 4 0 0 0 ∷ does 4 0 0 0 ∷ reads 2 0xCC ∷ reads 0 1 ∷ reads 2 0xC1 ∷ [])))
    -- "★ 6. Idle, IER 02: IIR 02, read again 01."
    ∷ (set_up_lem ++ (writes 1 0x02 ∷ reads 2 0x02 ∷ reads 2 0x01 ∷ []))
    -- "★ 7. 16450, IER 0F, arrival with framing mark: IIR 06, LSR 69, then IIR 04."
    ∷ (set_up_lem ++ (writes 1 0x0F ∷ arrives 2 0x41 ∷ reads 2 0x06 ∷ reads 5 0x69 ∷ reads 2 0x04 ∷ []))
    -- "★ 8. RI active: MSR 40; inactive: 04; read again 00."
    ∷ (does 3 0 0 4 ∷ reads 6 0x40 ∷ does 3 0 0 0 ∷ reads 6 0x04 ∷ reads 6 0x00 ∷ [])
    -- "★ 9. Base 40, lines 3 and 5 rise: 043, output 0; write 20: output 1; then 045."
    ∷ (initialised ++ (rises 3 ++ (rises 5 ++ (gives 8 0 0 0 0x043 0 ∷ gives 7 0 0 0x20 0x000 1 ∷ gives 8 0 0 0 0x045 0 ∷ []))))
    -- "★ 10. Line 3 in service, write A0: place of 4 is 0, of 3 is 7."
    ∷ (served_3 ++ (gives 7 0 0 0xA0 0x000 0 ∷ ranks 4 0 ∷ ranks 3 7 ∷ []))
    -- "★ 11. Nothing stands, base 40: 147, in-service 00."
    ∷ (initialised ++ (gives 8 0 0 0 0x147 0 ∷ does 7 0 0 0x0B ∷ gives 6 0 0 0 0x00 0 ∷ []))
    -- "★ 12. Line 3 in service and masked, write 68, line 5 stands: 045."
    ∷ (served_3 ++ (does 7 0 1 0x08 ∷ does 7 0 0 0x68 ∷ rises 5 ++ (gives 8 0 0 0 0x045 0 ∷ [])))
    ∷ []

-- "Each case starts from power-up."
unfoldable pub all : List (List Line) → Bool
all [] = true
all (ls ∷ rest) = holds power_up ls && all rest

-- "The twelve starred cases form a single list with a single theorem over the definitions."
abbrev pub Tasted : Type 0
Tasted = (length cases ≡ 12) × (all cases ≡ true)
