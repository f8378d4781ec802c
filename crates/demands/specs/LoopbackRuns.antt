-- Ticket 7 in runs from power-up, at seat 0: what each of some records is answered with, in hexadecimal.
use Rattle.std.specs.Prelude.{ℕ, ◌+◌, ◌<◌, true, false, ◌||◌, List, [], ◌∷◌, ◌++◌, map, ◌≡◌, eqb, replicate}
use Rattle.std.specs.Bool.{xor}
use Rattle.base.specs.Answers.{value_of, refusal_of}
use Rattle.base.specs.Bits.{bit, digit}
use Rattle.receiver.specs.Ledger.{characters, bytes}
use Rattle.registers.specs.declared.SeatEvent.TheVariants.{Read, Write, Arrival, Levels, Time}
use Rattle.channel.specs.declared.Channel.{Channel}
use Rattle.channel.specs.Parts.{with_settings, in_loopback}
use Rattle.channel.specs.Parts as channel
use Rattle.channel_laws.specs.Unlooped.{answers_then}
use Rattle.records.specs.Events.{Record, whole}
use Rattle.bench.specs.declared.Bench.{Bench}
use Rattle.bench.specs.declared.Outcome.{Outcome}
use Rattle.bench.specs.Seats.{power_up}
use Rattle.bench.specs.Steps.{outcome}
use Rattle.bench.specs.Runs.{after_all, outcomes}
use Rattle.demands.specs.Edges.{ready}
use Rattle.demands.specs.SeatLedger.{arrived_at, read_at, lost_at, dropped_at, queued_at}
use Rattle.demands.specs.TimeOut.{timeout_at}
use Rattle.demands.specs.Loopback.{channel_at, after_at, msr_at, AtRest, Echoed, AsBefore}

-- ---- the records

abbrev pub mcr : ℕ → Record
mcr byte = whole 1 0 4 byte

abbrev pub thr : ℕ → Record
thr byte = whole 1 0 0 byte

abbrev pub rbr : Record
rbr = whole 0 0 0 0

abbrev pub lsr : Record
lsr = whole 0 0 5 0

abbrev pub msr : Record
msr = whole 0 0 6 0

abbrev pub levels : ℕ → Record
levels n = whole 3 0 0 n

abbrev pub time : Record
time = whole 4 0 0 0

-- divisor 12 at a seat, and then these in LCR, FCR and MCR; and so at seat 0
abbrev pub set_up_at : ℕ → ℕ → ℕ → ℕ → List Record
set_up_at n lcr fcr byte = whole 1 n 3 0x80 ∷ whole 1 n 0 12 ∷ whole 1 n 3 lcr ∷ whole 1 n 2 fcr ∷ whole 1 n 4 byte ∷ []

abbrev pub set_up : ℕ → ℕ → ℕ → List Record
set_up = set_up_at 0

abbrev pub answering : Bench → List Record → List ℕ
answering b rs = map (λ (o : Outcome). value_of o.answer) (outcomes b rs)

-- ---- what is sent is received

-- three bytes written, four character times, LSR, three reads of RBR, LSR
abbrev pub self_test : List Record
self_test = thr 0x41 ∷ thr 0x20 ∷ thr 0xFF ∷ time ∷ time ∷ time ∷ time ∷ lsr ∷ rbr ∷ rbr ∷ rbr ∷ lsr ∷ []

-- at five bits, without break and with it: each byte comes back by its five lower bits, and each character time is answered 100
abbrev pub SelfTest : Type 0
SelfTest =
    map (λ lcr. answering (after_all power_up (set_up lcr 0x81 0x10)) self_test) (0x00 ∷ 0x40 ∷ [])
    ≡ replicate 2 (0x000 ∷ 0x000 ∷ 0x000 ∷ 0x100 ∷ 0x100 ∷ 0x100 ∷ 0x100 ∷ 0x061 ∷ 0x001 ∷ 0x000 ∷ 0x01F ∷ 0x060 ∷ [])

-- 16450 mode, "queues of 1": the second "replaces the old, overrun set"
abbrev pub OverrunInside : Type 0
OverrunInside =
    answering (after_all power_up (set_up 0x03 0x00 0x10)) (thr 0x41 ∷ time ∷ time ∷ lsr ∷ thr 0x42 ∷ time ∷ time ∷ lsr ∷ rbr ∷ [])
    ≡ 0x000 ∷ 0x100 ∷ 0x100 ∷ 0x061 ∷ 0x000 ∷ 0x100 ∷ 0x100 ∷ 0x063 ∷ 0x042 ∷ []

-- FIFO mode, one byte, and then another at a count of 4. Ticket 5: "an arrival leaves a count of 4 at 4 and sets a smaller one to 0"; and behind it the
-- count rises by the same character time
abbrev pub TimeOutInside : Type 0
TimeOutInside =
    map (λ rs. timeout_at 0 (after_all power_up (set_up 0x03 0xC1 0x10 ++ rs)))
    ((thr 0x41 ∷ time ∷ [])
    ∷ (thr 0x41 ∷ time ∷ time ∷ [])
    ∷ (thr 0x41 ∷ thr 0x42 ∷ time ∷ time ∷ time ∷ [])
    ∷ (thr 0x41 ∷ time ∷ time ∷ time ∷ time ∷ time ∷ [])
    ∷ (thr 0x41 ∷ time ∷ time ∷ time ∷ time ∷ time ∷ thr 0x42 ∷ time ∷ time ∷ [])
    ∷ [])
    ≡ 0 ∷ 1 ∷ 1 ∷ 4 ∷ 4 ∷ []

-- the receive ledger: in 16450 mode 41 comes back, 55 arrives outside and is no arrival, 42 comes back over 41 and is read, 43 comes back and goes with the
-- change of mode, and 44 waits
abbrev pub book_run : List Record
book_run =
    set_up 0x03 0x00 0x10
    ++ (thr 0x41 ∷ time ∷ time ∷ whole 2 0 0 0x55 ∷ thr 0x42 ∷ time ∷ time ∷ rbr ∷ thr 0x43 ∷ time ∷ time ∷ whole 1 0 2 0x01 ∷ thr 0x44 ∷ time ∷ time ∷ [])

pub record LedgerInside : Type 0 where
  pub arrived : bytes (arrived_at outcome 0 power_up book_run) ≡ 0x41 ∷ 0x42 ∷ 0x43 ∷ 0x44 ∷ []
  pub read : bytes (characters (read_at outcome 0 power_up book_run)) ≡ 0x42 ∷ []
  pub lost : lost_at outcome 0 power_up book_run ≡ 1
  pub dropped : dropped_at outcome 0 power_up book_run ≡ 1
  pub waits : queued_at 0 (after_all power_up book_run) ≡ 0x44 ∷ []

-- ---- the modem inputs

-- MCR writes, each with an MSR read behind it: RTS alone, DTR alone, OUT1 alone, OUT2 alone, and out of loopback
abbrev pub FedInTurn : Type 0
FedInTurn =
    answering power_up (mcr 0x12 ∷ msr ∷ mcr 0x11 ∷ msr ∷ mcr 0x14 ∷ msr ∷ mcr 0x18 ∷ msr ∷ mcr 0x0F ∷ msr ∷ [])
    ≡ 0x000 ∷ 0x011 ∷ 0x000 ∷ 0x023 ∷ 0x000 ∷ 0x042 ∷ 0x000 ∷ 0x08C ∷ 0x000 ∷ 0x008 ∷ []

-- with all four active outside: entering takes all four away, and leaving brings them back, RI's change told by its fall alone
abbrev pub EnteringLeaving : Type 0
EnteringLeaving =
    answering power_up (levels 15 ∷ msr ∷ mcr 0x10 ∷ msr ∷ mcr 0x00 ∷ msr ∷ mcr 0x1F ∷ msr ∷ [])
    ≡ 0x000 ∷ 0x0FB ∷ 0x000 ∷ 0x00F ∷ 0x000 ∷ 0x0FB ∷ 0x000 ∷ 0x0F0 ∷ []

-- ticket 7: "(a master reset sets none)": CTS and RI outside, DSR and DCD within
abbrev pub ResetInside : Type 0
ResetInside =
    answering power_up (levels 5 ∷ msr ∷ mcr 0x19 ∷ msr ∷ whole 5 0 0 0 ∷ msr ∷ []) ≡ 0x000 ∷ 0x051 ∷ 0x000 ∷ 0x0AF ∷ 0x000 ∷ 0x050 ∷ []

-- the levels outlast a write within: all four active outside, then loopback with nothing, with RTS and OUT2, and out of it
abbrev pub LevelsOutlast : Type 0
LevelsOutlast =
    answering power_up (levels 15 ∷ mcr 0x10 ∷ msr ∷ mcr 0x1A ∷ msr ∷ mcr 0x00 ∷ msr ∷ []) ≡ 0x000 ∷ 0x000 ∷ 0x00F ∷ 0x000 ∷ 0x099 ∷ 0x000 ∷ 0x0F2 ∷ []

-- ---- from outside

-- an arrival, one of marks 8, levels 16, new levels: nothing is heard and nothing is told, until the seat leaves loopback
abbrev pub FromOutside : Type 0
FromOutside =
    answering (after_all power_up (set_up 0x03 0x81 0x10)) (whole 2 0 0 0x41 ∷ whole 2 0 8 0x41 ∷ lsr ∷ rbr ∷ levels 16 ∷ levels 15 ∷ msr ∷ mcr 0x00 ∷ msr ∷ [])
    ≡ 0x000 ∷ 0xFFF ∷ 0x060 ∷ 0x000 ∷ 0xFFF ∷ 0x000 ∷ 0x000 ∷ 0x000 ∷ 0x0FB ∷ []

-- ---- the line

-- the output after each of some records
abbrev pub calling : Bench → List Record → List ℕ
calling b rs = map (λ (o : Outcome). digit o.output) (outcomes b rs)

-- ticket 7: "MCR bit 3 keeps gating the line.": a character is received, and the output after each record with OUT2 clear, and with it set
abbrev pub LineGated : Type 0
LineGated =
    map (λ byte. calling (after_all power_up (ready ++ set_up 0x03 0x00 byte)) (whole 1 0 1 0x01 ∷ thr 0x41 ∷ time ∷ time ∷ rbr ∷ [])) (0x10 ∷ 0x18 ∷ [])
    ≡ (0 ∷ 0 ∷ 0 ∷ 0 ∷ 0 ∷ []) ∷ (0 ∷ 0 ∷ 0 ∷ 1 ∷ 0 ∷ []) ∷ []

-- document 004: ‘a modem status interrupt can still be generated by writing to MCR3–MCR0’: IER bit 3, and then RTS comes back as CTS, without OUT2 and with it
abbrev pub CallsFromWithin : Type 0
CallsFromWithin =
    map (λ byte. calling (after_all power_up ready) (whole 1 0 1 0x08 ∷ mcr byte ∷ msr ∷ [])) (0x12 ∷ 0x1A ∷ []) ≡ (0 ∷ 0 ∷ 0 ∷ []) ∷ (0 ∷ 1 ∷ 0 ∷ []) ∷ []

-- ---- before this ticket

-- MCR 10, which no write could bring then
abbrev pub tampered : Channel
tampered = with_settings channel.power_up (record { ier = 0; fcr = 0; lcr = 0x03; mcr = 0x10; scratch = 0; dll = 12; dlm = 0 })

-- what `OutsideAsBefore` compares with is another bench: MCR bit 4 was refused by 9; and it did nothing, so that an arrival was queued, levels were shown and
-- a byte went out
abbrev pub BeforeDiffers : Type 0
BeforeDiffers =
    (map refusal_of (answers_then channel.power_up (Write 4 0x10 ∷ Write 4 0x0F ∷ [])) ≡ 9 ∷ 0 ∷ [])
    × (map value_of (answers_then tampered (Arrival 0 0x41 ∷ Read 0 ∷ Levels 1 ∷ Read 6 ∷ Write 0 0x42 ∷ Time ∷ Time ∷ []))
    ≡ 0x000 ∷ 0x041 ∷ 0x000 ∷ 0x011 ∷ 0x000 ∷ 0x100 ∷ 0x042 ∷ [])

-- ---- the premises of the statements are met

-- seat 7 in FIFO mode with all but OUT1, and seat 3 in 16450 mode
abbrev pub seven : Bench
seven = after_all power_up (set_up_at 7 0x03 0x01 0x1B)

abbrev pub third : Bench
third = after_all power_up (set_up_at 3 0x43 0x00 0x10)

-- and what they say of these is not computed: it follows
pub record LoopbackMet : Type 0 where
  pub inside : (in_loopback (channel_at 7 seven) ≡ true) × (in_loopback (channel_at 3 third) ≡ true)
  pub rest : AtRest 7 seven × AtRest 3 third
  pub sixteen : Echoed 7 seven (replicate 16 0xA5)
  pub one : Echoed 3 third (0xA5 ∷ [])
  -- of CTS, DSR and DCD each by its own bit
  pub noticed : (k : ℕ) → k < 4 → eqb k 2 ≡ false
      → let before = msr_at 0 power_up in
      let now = msr_at 0 (after_at 0 power_up (Write 4 0x1B ∷ [])) in
      bit k now ≡ (bit k before || xor (bit (4 + k) before) (bit (4 + k) now))
  pub outside : in_loopback (channel_at 0 power_up) ≡ false
  pub as_before : AsBefore 0 power_up
      (Write 3 0x80 ∷ Write 0 12 ∷ Write 3 0x03 ∷ Write 4 0x0F ∷ Levels 15 ∷ Read 6 ∷ Arrival 2 0x41 ∷ Write 0 0x42 ∷ Time ∷ Time ∷ Read 0 ∷ Write 8 0xFF ∷ [])
