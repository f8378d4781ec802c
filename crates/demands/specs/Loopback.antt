-- Ticket 7, loopback, at any seat of any bench: the seat's own events, given to the bench as records one after the other.
use Rattle.std.specs.Prelude.{ℕ, suc, ◌<◌, ◌≤◌, Bool, true, false, ◌||◌, List, [], ◌∷◌, ◌++◌, map, ◌≡◌, eqb, length, replicate}
use Rattle.base.specs.Bits.{bit}
use Rattle.base.specs.Answers.{value_of, refusal_of}
use Rattle.base.specs.declared.Answer.{Answer}
use Rattle.base.specs.declared.Answer.TheVariants.{Done, Idle}
use Rattle.queue.specs.declared.Character.{Character}
use Rattle.queue.specs.Queue.{contents}
use Rattle.queue.specs.Joining.{places}
use Rattle.receiver.specs.Receiver.{none_queued, received, waited}
use Rattle.transmitter.specs.Transmitter.{all_sent}
use Rattle.registers.specs.declared.SeatEvent.{SeatEvent}
use Rattle.registers.specs.declared.SeatEvent.TheVariants.{Read, Write, Arrival, Levels, Time}
use Rattle.registers.specs.Registers.{divisor, with_mcr}
use Rattle.registers.specs.Words.{cut}
use Rattle.registers.specs.Refusals.{refusal}
use Rattle.channel.specs.declared.Channel.{Channel}
use Rattle.channel.specs.Parts.{with_modem, fifo, in_loopback}
use Rattle.channel.specs.Sound.{sound_channel}
use Rattle.channel.specs.StatusLaws.{ShowsOutputs}
use Rattle.channel_laws.specs.LevelLaws.{Noticed, moves_modem}
use Rattle.channel_laws.specs.LoopbackLaws.{some_give}
use Rattle.channel_laws.specs.HearingLaws.{reading, letters_of}
use Rattle.channel_laws.specs.Sends.{sending}
use Rattle.channel_laws.specs.Unlooped.{after_then, answers_then, some_asks}
use Rattle.records.specs.Events.{Record, whole, seat_count}
use Rattle.bench.specs.declared.Bench.{Bench}
use Rattle.bench.specs.declared.Outcome.{Outcome}
use Rattle.bench.specs.Seats.{seat}
use Rattle.bench.specs.Valid.{valid}
use Rattle.bench.specs.Steps.{outcome}
use Rattle.bench.specs.Runs.{after_all, outcomes}

-- ---- one seat of a bench

-- an event of seat n as a record: "kind, seat, number, value"
unfoldable pub record_of : ℕ → SeatEvent → Record
record_of n (Read register) = whole 0 n register 0
record_of n (Write register byte) = whole 1 n register byte
record_of n (Arrival marks byte) = whole 2 n marks byte
record_of n (Levels levels) = whole 3 n 0 levels
record_of n Time = whole 4 n 0 0

-- its channel
abbrev pub channel_at : ℕ → Bench → Channel
channel_at n b = (seat b n).channel

-- the bench after some events of seat n, and what each was answered with
abbrev pub after_at : ℕ → Bench → List SeatEvent → Bench
after_at n b es = after_all b (map (record_of n) es)

abbrev pub answers_at : ℕ → Bench → List SeatEvent → List Answer
answers_at n b es = map (λ (o : Outcome). o.answer) (outcomes b (map (record_of n) es))

-- ticket 8: "19, last in order, where arrived would pass its largest value" is the tally's refusal and not the channel's: none of these answers is that
abbrev pub some_full : List Answer → Bool
some_full [] = false
some_full (a ∷ rest) = eqb (refusal_of a) 19 || some_full rest

abbrev pub NoneFull : ℕ → Bench → List SeatEvent → Type 0
NoneFull n b es = some_full (answers_at n b es) ≡ false

-- what its MSR shows
abbrev pub msr_at : ℕ → Bench → ℕ
msr_at n b = value_of (outcome b (record_of n (Read 6))).answer

-- all eight seats are on the bench, and n is one of them
abbrev pub OnBench : ℕ → Bench → Type 0
OnBench n b = (n < seat_count) × (length b.seats ≡ seat_count)

-- what is said of each seat of each bench, and of those in loopback
abbrev pub AtSeats : (ℕ → Bench → Type 0) → Type 0
AtSeats Said = (n : ℕ) (b : Bench) → OnBench n b → Said n b

abbrev pub InLoopback : (ℕ → Bench → Type 0) → Type 0
InLoopback Said = AtSeats (λ n b. in_loopback (channel_at n b) ≡ true → Said n b)

-- ---- the modem inputs

-- ticket 7: "DTR, RTS, OUT1 and OUT2 feed DSR, CTS, RI and DCD": MSR bits 4 to 7 are MCR bits 1, 0, 2 and 3
abbrev pub FedBack : Type 0
FedBack = InLoopback (λ n b. ShowsOutputs (channel_at n b).settings.mcr (msr_at n b))

-- ticket 7: "with change bits as for real inputs, also where a write of MCR enters or leaves": at every modem event and every MCR write, in loopback or not, the
-- change bits come of what MSR bits 4 to 7 show before it and after it
abbrev pub ChangesNoticed : Type 0
ChangesNoticed =
    AtSeats (λ n b.
    ((levels : ℕ) → levels < 16 → Noticed (msr_at n b) (msr_at n (after_at n b (Levels levels ∷ []))))
    × ((byte : ℕ) → Noticed (msr_at n b) (msr_at n (after_at n b (Write 4 byte ∷ [])))))

-- and nowhere else: what is neither a modem event, an MCR write nor an MSR read leaves them
abbrev pub ChangesStand : Type 0
ChangesStand =
    AtSeats (λ n b. (e : SeatEvent) → moves_modem e ≡ false → (k : ℕ) → k < 4 → bit k (msr_at n (after_at n b (e ∷ []))) ≡ bit k (msr_at n b))

-- ticket 7: "(a master reset sets none)"
abbrev pub ResetSetsNone : Type 0
ResetSetsNone = AtSeats (λ n b. (k : ℕ) → k < 4 → bit k (msr_at n (outcome b (whole 5 0 0 0)).bench) ≡ false)

-- ---- what comes from outside

-- a character time with a character in the shift register, which is all that the tally is asked for in loopback
abbrev pub leaves : Channel → SeatEvent → Bool
leaves c (Read k) = false
leaves c (Write k byte) = false
leaves c (Arrival marks byte) = false
leaves c (Levels levels) = false
leaves c Time = c.transmitter.busy

-- ticket 7: "arrivals and modem events are checked as before": every event is, by what refuses it where the MCR is 0, unless it is refused by 19, as only a
-- character that leaves can be; "but an arrival changes nothing", accepted or refused
pub record Unheard (n : ℕ) (b : Bench) : Type 0 where
  pub checked : (e : SeatEvent) → NoneFull n b (e ∷ []) → refusal_of (outcome b (record_of n e)).answer ≡ refusal (with_mcr (channel_at n b).settings 0) e
  pub untallied : (e : SeatEvent) → leaves (channel_at n b) e ≡ false → NoneFull n b (e ∷ [])
  pub unchanged : (marks byte : ℕ) → channel_at n (after_at n b (Arrival marks byte ∷ [])) ≡ channel_at n b

abbrev pub ArrivalsUnheard : Type 0
ArrivalsUnheard = InLoopback Unheard

-- ticket 7: "and modem levels are only remembered"
abbrev pub LevelsKept : Type 0
LevelsKept =
    InLoopback (λ n b.
    sound_channel (channel_at n b) ≡ true → (levels : ℕ) → levels < 16
    → channel_at n (after_at n b (Levels levels ∷ [])) ≡ with_modem (channel_at n b) (record { levels = levels; changes = (channel_at n b).modem.changes }))

-- and they last: over any events of the seat none of which gives others, in loopback or not
abbrev pub LevelsLast : Type 0
LevelsLast =
    AtSeats (λ n b. (es : List SeatEvent) → some_give es ≡ false → (channel_at n (after_at n b es)).modem.levels ≡ (channel_at n b).modem.levels)

-- ---- what is sent

-- ticket 7: "the character that leaves is received at once, cut to the word length and without marks, before the next one moves in": as an arrival is, in either
-- mode and whatever waits; and then the time-out count rises
abbrev pub LeaverReceived : Type 0
LeaverReceived =
    InLoopback (λ n b.
    let c = channel_at n b in
    eqb (divisor c.settings) 0 ≡ false → c.transmitter.busy ≡ true → NoneFull n b (Time ∷ [])
    → (channel_at n (after_at n b (Time ∷ []))).receiver
    ≡ waited (fifo c) (received (fifo c) c.receiver (record { «data» = cut c.settings.lcr c.transmitter.shift; marks = 0 })))

-- a seat with a divisor, LCR bit 7 clear, nothing to send and nothing received
pub record AtRest (n : ℕ) (b : Bench) : Type 0 where
  pub sound : sound_channel (channel_at n b) ≡ true
  pub divided : eqb (divisor (channel_at n b).settings) 0 ≡ false
  pub thr_reached : bit 7 (channel_at n b).settings.lcr ≡ false
  pub sent : all_sent (channel_at n b).transmitter ≡ true
  pub none : none_queued (channel_at n b).receiver ≡ true

-- the bytes as they come back, ticket 7: "cut to the word length and without marks"
abbrev pub cut_to : ℕ → List ℕ → List Character
cut_to lcr bytes = map (λ (byte : ℕ). record { «data» = cut lcr byte; marks = 0 }) bytes

-- ticket 7: "the character that leaves is received at once": these bytes written to the THR, and one character time more than there are bytes, "the answer is
-- 100, even with break set"; then they wait in the receive queue in order, and as many reads give them back
pub record Echoed (n : ℕ) (b : Bench) (bytes : List ℕ) : Type 0 where
  pub answered : answers_at n b (sending bytes (suc (length bytes))) ≡ replicate (length bytes) Done ++ replicate (suc (length bytes)) Idle
  pub waiting : contents (channel_at n (after_at n b (sending bytes (suc (length bytes))))).receiver.queue ≡ cut_to (channel_at n b).settings.lcr bytes
  pub read : answers_at n (after_at n b (sending bytes (suc (length bytes)))) (reading (length bytes)) ≡ letters_of (cut_to (channel_at n b).settings.lcr bytes)

-- what is sent is received: as many bytes as the queues take, which is 1 or 16
abbrev pub SentIsReceived : Type 0
SentIsReceived =
    InLoopback (λ n b.
    AtRest n b → (bytes : List ℕ) → length bytes ≤ places (fifo (channel_at n b)) → NoneFull n b (sending bytes (suc (length bytes)))
    → Echoed n b bytes)

-- and of an empty shift register nothing is: a character time leaves of the receive side what the time-out count alone makes of it
abbrev pub IdleReceivesNothing : Type 0
IdleReceivesNothing =
    InLoopback (λ n b.
    eqb (divisor (channel_at n b).settings) 0 ≡ false → (channel_at n b).transmitter.busy ≡ false
    → (channel_at n (after_at n b (Time ∷ []))).receiver ≡ waited (fifo (channel_at n b)) (channel_at n b).receiver)

-- ---- sound seats

-- where soundness is asked of a seat: every seat of a valid bench has it, and what power-up, records and restores make is valid (`Reached` of the room
-- image)
abbrev pub SeatsSound : Type 0
SeatsSound = (n : ℕ) (b : Bench) → valid b ≡ true → sound_channel (channel_at n b) ≡ true

-- ---- outside loopback

-- over any events of the seat none of which is an MCR write with bit 4 set, answers and channel are those of before this ticket, as `Unlooped` of the
-- room channel_laws has them, where what this ticket moved stands in the words of before
pub record AsBefore (n : ℕ) (b : Bench) (es : List SeatEvent) : Type 0 where
  pub answers : answers_at n b es ≡ answers_then (channel_at n b) es
  pub channel : channel_at n (after_at n b es) ≡ after_then (channel_at n b) es

abbrev pub OutsideAsBefore : Type 0
OutsideAsBefore =
    AtSeats (λ n b.
    in_loopback (channel_at n b) ≡ false → sound_channel (channel_at n b) ≡ true → (es : List SeatEvent) → some_asks es ≡ false → NoneFull n b es
    → AsBefore n b es)
