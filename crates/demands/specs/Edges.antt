-- The edges that document 01 lists: the last that is accepted, and the first that is refused, by which number; and what ticket 4 tells apart.
use Rattle.std.specs.Prelude.{ℕ, List, [], ◌∷◌, ◌≡◌}
use Rattle.base.specs.Answers.{refusal_of}
use Rattle.records.specs.Events.{Record, whole}
use Rattle.bench.specs.Seats.{power_up}
use Rattle.bench.specs.Steps.{outcome}
use Rattle.bench.specs.Runs.{after_all}

-- the number by which a record is refused, 0 for none, once these have been answered from power-up on
abbrev pub refusing : List Record → Record → ℕ
refusing before r = refusal_of (outcome (after_all power_up before) r).answer

-- seat 0 with a divisor (register 0 at LCR bit 7) and an LCR of five bits
abbrev pub divided : ℕ → List Record
divided low = whole 1 0 3 0x80 ∷ whole 1 0 0 low ∷ whole 1 0 3 0x00 ∷ []

-- a controller that is ready
abbrev pub ready : List Record
ready = whole 7 0 0 0x13 ∷ whole 7 0 1 0x40 ∷ whole 7 0 1 0x01 ∷ []

-- "Edges: seat 7, 8; register 7, 8; port 1, 2; levels 15, 16; 1F and 20 at five bits; divisor 1, 0."; ticket 4: "16 data beyond the word length"
abbrev pub edges : List ℕ
edges =
    refusing [] (whole 0 7 0 0) ∷ refusing [] (whole 0 8 0 0)
    ∷ refusing [] (whole 0 0 7 0) ∷ refusing [] (whole 0 0 8 0)
    ∷ refusing ready (whole 6 0 1 0) ∷ refusing ready (whole 6 0 2 0)
    ∷ refusing [] (whole 3 0 0 15) ∷ refusing [] (whole 3 0 0 16)
    ∷ refusing (divided 1) (whole 2 0 0 0x1F) ∷ refusing (divided 1) (whole 2 0 0 0x20)
    ∷ refusing (divided 1) (whole 4 0 0 0) ∷ refusing (divided 0) (whole 4 0 0 0)
    ∷ []

abbrev pub Edges : Type 0
Edges = edges ≡ 0 ∷ 1 ∷ 0 ∷ 2 ∷ 0 ∷ 2 ∷ 0 ∷ 7 ∷ 0 ∷ 16 ∷ 0 ∷ 5 ∷ []

-- ticket 4: "6 is now marks above 7 only; 16 data beyond the word length, 17 parity mark with parity off, 18 break with data; tried in this order
-- where 6 stood": at five bits without parity four are off, then three, two and one, and then none
abbrev pub ingredients : List ℕ
ingredients =
    refusing (divided 1) (whole 2 0 13 0x21)
    ∷ refusing (divided 1) (whole 2 0 5 0x21)
    ∷ refusing (divided 1) (whole 2 0 5 0x01)
    ∷ refusing (divided 1) (whole 2 0 4 0x01)
    ∷ refusing (divided 1) (whole 2 0 4 0x00)
    ∷ []

abbrev pub Ingredients : Type 0
Ingredients = ingredients ≡ 6 ∷ 16 ∷ 17 ∷ 18 ∷ 0 ∷ []
