-- The letters of a seat of the bench: those of its receive side, over what befalls it; and no other event's answer is one.
use Rattle.std.specs.Prelude.{Option, Some, None, Ok, Err}
use Prim.Native.Nat.{ℕ}
use mathlib.Core.Bool.{true, false, not, ◌&&◌}
use mathlib.Core.List.{List}
use mathlib.Core.Logic.{◌⊎◌, inl, inr, ⊎_elim}
use mathlib.Core.Path.{◌≡◌, refl, ap, sym, subst, ◌∙◌}
use native.Mathlib.Omega.{arith}
use lib.Dec.{eqb}
use borrow.Author.Tests.{eqb-true, ne_eqb, eqb-false, ltb-false}
use Rattle.base.specs.PickLaws.{pick_either, either_way}
use Rattle.base.specs.Bits.{bit}
use Rattle.base.specs.Answers.{is_letter}
use Rattle.base.specs.declared.Answer.{Answer}
use Rattle.base.specs.declared.Answer.TheVariants.{Byte, Sent, Idle, Break}
use Rattle.receiver.specs.Ledger.{Handed, Side, held, at_power_up, read_in}
use Rattle.receiver.specs.Letters.{Letters}
use Rattle.receiver.proofs.LetterLaws.{letters}
use Rattle.registers.specs.declared.SeatEvent.{SeatEvent}
use Rattle.registers.specs.declared.SeatEvent.TheVariants.{Read, Write, Arrival, Levels, Time}
use Rattle.registers.proofs.RefusalLaws.{accepts, accepted}
use Rattle.channel.specs.declared.Channel.{Channel}
use Rattle.channel.specs.declared.Stepped.{Stepped}
use Rattle.channel.specs.Parts.{divisor_shown}
use Rattle.channel.specs.StepLaws as channel-laws
use Rattle.channel_laws.specs.AnswerLaws.{ReadAnswer, Answers, answers}
use Rattle.seat.specs.declared.Seat.{Seat}
use Rattle.seat.specs.declared.Replied.{Replied}
use Rattle.seat.specs.Steps.{refusal, effect, stepped}
use Rattle.seat.specs.StepLaws.{step_taken, step_refused, taken_own}
use Rattle.seat.specs.CountLaws.{read_own}
use Rattle.seat.specs.Receiving.{side}
use Rattle.controller.specs.declared.Controller.{Controller}
use Rattle.controller.specs.Turns.{granted, answered, acknowledged}
use Rattle.records.specs.declared.Event.{Event}
use Rattle.records.specs.declared.Event.TheVariants.{OfSeat, MasterReset, ReadController, WriteController, Acknowledge}
use Rattle.records.specs.Events.{decoded, Decoded}
use Rattle.bench.specs.declared.Bench.{Bench}
use Rattle.bench.specs.declared.Outcome.{Outcome}
use Rattle.bench.specs.Seats.{seat, power_up}
use Rattle.bench.specs.Steps.{answer_to, met, dealt, outcome}
use Rattle.bench.specs.MeetLaws.{outcome_dealt}
use Rattle.bench.specs.DoneLaws.{seat_answer}
use Rattle.demands.specs.Demand2.{ends}
use Rattle.demands.specs.SeatLedger.{befalls_in, read_at}
use Rattle.demands.specs.SeatLetters.{SeatLetters, SeatLettersFromPowerUp, reads_rbr, rbr_read, OnlyRbr, In16450Mode, InFifoMode}
use Rattle.demands.proofs.SeatLedger.{all_read, all_after, seat_at_power_up, sound_at, runs_out}
use Rattle.demands.proofs.Opened.{laid_open}

-- ---- over any run

pub seat_letters : SeatLetters
seat_letters n b rs all sound =
    let s = side (seat b n) in
    let ms = befalls_in outcome n b rs in
    subst (λ (x : List Handed). Letters s ms x (held (side (seat (ends outcome b rs) n)))) (all_read n b all rs)
    (subst (λ (t : Side). Letters s ms (read_in s ms) (held t)) (all_after n b all rs) (letters s ms sound))

pub seat_letters_from_power_up : SeatLettersFromPowerUp
unfolding bit
seat_letters_from_power_up n rs =
    let ms = befalls_in outcome n power_up rs in
    let given = read_at outcome n power_up rs in
    subst (λ (b : Bench). Letters at_power_up ms given (held (side (seat b n)))) (runs_out rs)
    (subst (λ (s : Seat). Letters (side s) ms given (held (side (seat (ends outcome power_up rs) n)))) (seat_at_power_up n)
    (seat_letters n power_up rs refl (sound_at n)))

-- ---- which answers are letters

byte_is_none : (a : Answer) → (byte : ℕ) × (a ≡ Byte byte) → is_letter a ≡ false
unfolding is_letter
byte_is_none a told = ap is_letter told.1

read_letter : (c : Channel) (n : ℕ) (a : Answer) → ReadAnswer c n a → is_letter a ≡ (eqb n 0 && not (divisor_shown c))
unfolding is_letter
read_letter c n a told =
    ⊎_elim
    (λ (zero : eqb n 0 ≡ true).
    ⊎_elim
    (λ (set : divisor_shown c ≡ true). byte_is_none a (told.divisor set) ∙ rw (zero, set))
    (λ (clear : divisor_shown c ≡ false). ap is_letter (told.letter (eqb-true n 0 zero) clear) ∙ rw (zero, clear))
    (either_way (divisor_shown c)))
    (λ (other : eqb n 0 ≡ false). byte_is_none a (told.by_number (eqb-false n 0 other)) ∙ rw other)
    (either_way (eqb n 0))

time_is_none : (a : Answer) → ((byte : ℕ) × (a ≡ Sent byte)) ⊎ ((a ≡ Idle) ⊎ (a ≡ Break)) → is_letter a ≡ false
unfolding is_letter
time_is_none a (inl sent) = ap is_letter sent.1
time_is_none a (inr (inl idle)) = ap is_letter idle
time_is_none a (inr (inr broken)) = ap is_letter broken

event_letter : (s : Seat) (e : SeatEvent) (a : Answer) → Answers s.channel e a → is_letter a ≡ reads_rbr s e
unfolding is_letter reads_rbr
event_letter s (Read n) a told = read_letter s.channel n a told
event_letter s (Write n byte) a told = ap is_letter told
event_letter s (Arrival marks byte) a told = ap is_letter told
event_letter s (Levels levels) a told = ap is_letter told
event_letter s Time a told = time_is_none a told

refused_read : (s : Seat) (e : SeatEvent) → accepts s.channel.settings e ≡ false → reads_rbr s e ≡ false
unfolding reads_rbr
refused_read s (Read n) wrong = rw (ne_eqb n 0 (λ (zero : n ≡ 0). omega (arith, ltb-false n 8 wrong)))
refused_read s (Write n byte) wrong = refl
refused_read s (Arrival marks byte) wrong = refl
refused_read s (Levels levels) wrong = refl
refused_read s Time wrong = refl

-- a read that a seat refuses, its channel does
own_refused : (s : Seat) (e : SeatEvent) → eqb (refusal s e) 0 ≡ false → reads_rbr s e ≡ false
unfolding reads_rbr
own_refused s (Read n) some =
    refused_read s (Read n) (sym (accepted s.channel.settings (Read n)) ∙ ap (λ (k : ℕ). eqb k 0) (sym (read_own s n)) ∙ some)
own_refused s (Write n byte) some = refl
own_refused s (Arrival marks byte) some = refl
own_refused s (Levels levels) some = refl
own_refused s Time some = refl

seat_letter : (s : Seat) (e : SeatEvent) → is_letter (stepped s e).answer ≡ reads_rbr s e
unfolding is_letter effect
seat_letter s e =
    ⊎_elim
    (λ (none : eqb (refusal s e) 0 ≡ true).
    let served = sym (accepted s.channel.settings e) ∙ taken_own s e none in
    ap (λ (t : Replied). is_letter t.answer) (step_taken s e none)
    ∙ ap (λ (t : Stepped). is_letter t.answer) (sym (channel-laws.step_taken s.channel e (taken_own s e none)))
    ∙ event_letter s e _ (answers s.channel e served))
    (λ (some : eqb (refusal s e) 0 ≡ false).
    ap (λ (t : Replied). is_letter t.answer) (step_refused s e some) ∙ sym (own_refused s e some))
    (either_way (eqb (refusal s e) 0))

-- what is not a letter where it is done is none where it is refused
not_met : (b : Bench) (e : Event) → is_letter (answer_to b e) ≡ false → is_letter (met b e).answer ≡ false
unfolding met is_letter
not_met b e none = pick_either (λ (o : Outcome). is_letter o.answer ≡ false) _ _ _ none refl

turn_letter : (c : Controller) (t : Option ℕ) → is_letter (answered c t).answer ≡ false
unfolding is_letter
turn_letter c (Some n) = refl
turn_letter c None = refl

acknowledge_letter : (c : Controller) → is_letter (acknowledged c).answer ≡ false
unfolding acknowledged
acknowledge_letter c = turn_letter c (granted c)

dealt_letter : (b : Bench) (d : Decoded) → is_letter (dealt b d).answer ≡ rbr_read b d
unfolding dealt rbr_read answer_to is_letter
dealt_letter b (Ok (OfSeat n e)) = ap is_letter (seat_answer b n e) ∙ seat_letter (seat b n) e
dealt_letter b (Ok MasterReset) = not_met b MasterReset refl
dealt_letter b (Ok (ReadController port)) = not_met b (ReadController port) refl
dealt_letter b (Ok (WriteController port byte)) = not_met b (WriteController port byte) refl
dealt_letter b (Ok Acknowledge) = not_met b Acknowledge (acknowledge_letter b.controller)
dealt_letter b (Err number) = refl

pub only_rbr : OnlyRbr
only_rbr b r = ap (λ (o : Outcome). is_letter o.answer) (outcome_dealt b r) ∙ dealt_letter b (decoded r)

-- ---- runs from power-up

pub in_16450_mode : In16450Mode
unfolding laid_open
in_16450_mode = refl

pub in_fifo_mode : InFifoMode
unfolding laid_open
in_fifo_mode = refl
