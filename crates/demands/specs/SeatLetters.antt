-- The letters of a seat of the bench: what its RBR answers tell of each character over any run, and which answers are letters.
use Rattle.std.specs.Prelude.{ℕ, Bool, false, not, ◌&&◌, List, [], ◌∷◌, ◌++◌, map, ◌≡◌, eqb, length, Ok, Err}
use Rattle.base.specs.Bits.{bit}
use Rattle.base.specs.Answers.{no_figures, is_letter}
use Rattle.base.specs.declared.Answer.{Answer}
use Rattle.base.specs.declared.Answer.TheVariants.{Byte, Letter}
use Rattle.receiver.specs.Ledger.{held, at_power_up}
use Rattle.receiver.specs.Letters.{Letters}
use Rattle.registers.specs.declared.SeatEvent.{SeatEvent}
use Rattle.registers.specs.declared.SeatEvent.TheVariants.{Read, Write, Arrival, Levels, Time}
use Rattle.seat.specs.declared.Seat.{Seat}
use Rattle.seat.specs.Receiving.{side}
use Rattle.records.specs.declared.Event.TheVariants.{OfSeat, MasterReset, ReadController, WriteController, Acknowledge}
use Rattle.records.specs.Events.{Record, whole, decoded, seat_count, Decoded}
use Rattle.bench.specs.declared.Bench.{Bench}
use Rattle.bench.specs.Seats.{seat, power_up}
use Rattle.bench.specs.Steps.{outcome}
use Rattle.bench.specs.Runs.{after_all}
use Rattle.demands.specs.Demand2.{Step, ends}
use Rattle.demands.specs.SeatLedger.{befalls_in, read_at, SoundAt}

-- from any bench with all its seats on, where the receive side of seat n is sound: what the answers hand over, and what waits at the end, is as Letters
-- says of all that befell that side
abbrev pub HandsOver : Step → Type 0
HandsOver f =
    (n : ℕ) (b : Bench) (rs : List Record) → length b.seats ≡ seat_count → SoundAt n b
    → Letters (side (seat b n)) (befalls_in f n b rs) (read_at f n b rs) (held (side (seat (ends f b rs) n)))

abbrev pub SeatLetters : Type 0
SeatLetters = HandsOver outcome

-- and from power-up on, where nothing is queued and nothing is asked of the bench
abbrev pub SeatLettersFromPowerUp : Type 0
SeatLettersFromPowerUp =
    (n : ℕ) (rs : List Record)
    → Letters at_power_up (befalls_in outcome n power_up rs) (read_at outcome n power_up rs) (held (side (seat (after_all power_up rs) n)))

-- ---- which answers are letters

-- "0 RBR/THR"; "With LCR bit 7 set, 0 and 1 are DLL and DLM, for reads and writes."
unfoldable pub reads_rbr : Seat → SeatEvent → Bool
reads_rbr s (Read n) = eqb n 0 && not (bit 7 s.channel.settings.lcr)
reads_rbr s (Write n byte) = false
reads_rbr s (Arrival marks byte) = false
reads_rbr s (Levels levels) = false
reads_rbr s Time = false

unfoldable pub rbr_read : Bench → Decoded → Bool
rbr_read b (Ok (OfSeat n e)) = reads_rbr (seat b n) e
rbr_read b (Ok MasterReset) = false
rbr_read b (Ok (ReadController port)) = false
rbr_read b (Ok (WriteController port byte)) = false
rbr_read b (Ok Acknowledge) = false
rbr_read b (Err number) = false

-- ticket 6: "The RBR answer gains these figures", and no other answer of the bench, whatever the bench and the record
abbrev pub OnlyRbr : Type 0
OnlyRbr = (b : Bench) (r : Record) → is_letter (outcome b r).answer ≡ rbr_read b (decoded r)

-- ---- runs from power-up: seat 0 with divisor 12, eight bits and parity

abbrev pub with_parity : List Record
with_parity = whole 1 0 3 0x8B ∷ whole 1 0 0 12 ∷ whole 1 0 3 0x0B ∷ []

abbrev pub read_lsr : Record
read_lsr = whole 0 0 5 0

abbrev pub read_rbr : Record
read_rbr = whole 0 0 0 0

-- what register 0 answers after these
abbrev pub answered : List Record → Answer
answered rs = (outcome (after_all power_up (with_parity ++ rs)) read_rbr).answer

-- ticket 6: "in 16450 mode the marks it arrived with, even after LSR was read"; of two that arrive, the second's own; "From an empty queue: no marks,
-- none behind."; and the divisor's low byte, which is no letter
abbrev pub In16450Mode : Type 0
In16450Mode =
    map answered
    ((whole 2 0 1 0x41 ∷ read_lsr ∷ [])
    ∷ (whole 2 0 2 0x41 ∷ whole 2 0 1 0x42 ∷ [])
    ∷ (whole 2 0 1 0x41 ∷ read_rbr ∷ [])
    ∷ []
    ∷ (whole 2 0 1 0x41 ∷ whole 1 0 3 0x8B ∷ [])
    ∷ [])
    ≡ Letter 0x41 (record { marks = 1; behind = 0 }) ∷ Letter 0x42 (record { marks = 1; behind = 0 }) ∷ Letter 0x41 no_figures ∷ Letter 0x00 no_figures ∷ Byte 12 ∷ []

-- FIFO mode: three arrive, the first with a parity mark and the second with a framing mark
abbrev pub three : List Record
three = whole 1 0 2 0x01 ∷ whole 2 0 1 0x41 ∷ whole 2 0 2 0x42 ∷ whole 2 0 0 0x43 ∷ []

-- ticket 6: "its marks and how many remain behind it"; "in FIFO mode marks that an LSR read cleared stay cleared", the oldest one's and no other's
abbrev pub InFifoMode : Type 0
InFifoMode =
    map (λ rs. answered (three ++ rs)) ([] ∷ (read_lsr ∷ []) ∷ (read_lsr ∷ read_rbr ∷ []) ∷ (read_rbr ∷ read_lsr ∷ []) ∷ [])
    ≡ Letter 0x41 (record { marks = 1; behind = 2 })
    ∷ Letter 0x41 (record { marks = 0; behind = 2 })
    ∷ Letter 0x42 (record { marks = 2; behind = 1 })
    ∷ Letter 0x42 (record { marks = 0; behind = 1 })
    ∷ []
