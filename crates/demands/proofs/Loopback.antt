-- Ticket 7 over the bench: the records of one seat are its channel's events, and so the laws of the channel are the bench's.
use Prim.Native.Nat.{ℕ, zero, suc}
use mathlib.Core.Bool.{Bool, true, false, ◌&&◌, ◌||◌, and-false, or-false}
use mathlib.Core.List.{List, [], ◌∷◌}
use mathlib.Core.Path.{◌≡◌, refl, ap, ap₂, sym, subst, ◌∙◌}
use mathlib.Core.Logic.{⊎_elim}
use native.Mathlib.Omega.{arith}
use lib.Dec.{eqb}
use lib.ListN.{length}
use borrow.Author.Tests.{eqb-true}
use Rattle.base.specs.PickLaws.{pick_either, neither, either_way}
use Rattle.base.specs.Refusals.{first_held}
use Rattle.base.specs.Bits.{bit}
use Rattle.base.specs.Answers.{value_of, refusal_of}
use Rattle.base.specs.declared.Answer.{Answer}
use Rattle.queue.specs.Queue.{capacity, contents}
use Rattle.queue.proofs.QueueLaws.{contents_of}
use Rattle.registers.specs.declared.SeatEvent.{SeatEvent}
use Rattle.registers.specs.declared.SeatEvent.TheVariants.{Read, Write, Arrival, Levels, Time}
use Rattle.registers.specs.declared.Settings.{Settings}
use Rattle.registers.specs.Registers.{divisor}
use Rattle.registers.specs.Refusals as refusing
use Rattle.registers.specs.RegisterLaws.{divisor_none}
use Rattle.registers.proofs.RefusalLaws.{undivided, mcr_has_no_part, first_held_lem}
use Rattle.channel.specs.declared.Channel.{Channel}
use Rattle.channel.specs.declared.Stepped.{Stepped}
use Rattle.channel.specs.Steps as channel
use Rattle.channel.specs.Parts.{in_loopback}
use Rattle.channel.specs.Status as channel-status
use Rattle.channel.specs.StatusLaws.{ShowsOutputs, msr_looped}
use Rattle.channel.specs.StepLaws.{step_number}
use Rattle.channel_laws.specs.AgainLaws.{shows_msr}
use Rattle.channel_laws.specs.LevelLaws.{Noticed, gives_levels, levels_stay, levels_noticed, mcr_noticed, changes_stay}
use Rattle.channel_laws.specs.ResetLaws.{reset_changes}
use Rattle.channel_laws.specs.FigureLaws as figures
use Rattle.channel_laws.specs.LoopbackLaws.{some_give, arrival_unheard, levels_remembered, leaver_received, none_received}
use Rattle.channel_laws.specs.EchoLaws.{sent_idle, sent_received, sent_read}
use Rattle.channel_laws.specs.UnloopedLaws.{as_then}
use Rattle.channel_laws.specs.HearingLaws.{reading}
use Rattle.channel_laws.specs.Sends.{after_events, answers_to, sending}
use Rattle.channel_laws.specs.Shown.{shown, after}
use Rattle.seat.specs.declared.Seat.{Seat}
use Rattle.seat.specs.declared.Replied.{Replied}
use Rattle.seat.specs.Steps as seat-step
use Rattle.seat.specs.StepLaws as seat-laws
use Rattle.seat.specs.CountLaws.{read_own, write_own, levels_own}
use Rattle.seat.proofs.SoundLaws.{sound_parts}
use Rattle.records.specs.Events.{Record, whole}
use Rattle.bench.specs.declared.Bench.{Bench}
use Rattle.bench.specs.Seats.{seat}
use Rattle.bench.specs.Steps.{outcome}
use Rattle.bench.specs.DoneLaws.{seat_done_lem, reset_done}
use Rattle.bench.specs.RunLaws.{all_kept}
use Rattle.bench.proofs.ValidLaws.{at_seat_lem, parts as valid-parts}
use Rattle.demands.specs.Loopback.{record_of, channel_at, after_at, answers_at, some_full, NoneFull, leaves, msr_at, OnBench, FedBack, ChangesNoticed, ChangesStand, ResetSetsNone, ArrivalsUnheard, LevelsKept, LevelsLast, LeaverReceived, SeatsSound, cut_to, SentIsReceived, IdleReceivesNothing, OutsideAsBefore}

-- ---- a seat's records are its channel's events

-- no channel gives 19
abbrev pub Other : ℕ → Type 0
Other k = eqb k 19 ≡ false

own_other : (s : Settings) (e : SeatEvent) → Other (first_held (refusing.grounds s e))
unfolding refusing.grounds first_held
own_other s (Read n) = pick_either Other _ _ _ refl refl
own_other s (Write n byte) = pick_either Other _ _ _ refl refl
own_other s (Arrival marks byte) =
    pick_either Other _ _ _ refl
    (pick_either Other _ _ _ refl (pick_either Other _ _ _ refl (pick_either Other _ _ _ refl (pick_either Other _ _ _ refl refl))))
own_other s (Levels levels) = pick_either Other _ _ _ refl refl
own_other s Time = pick_either Other _ _ _ refl refl

pub never_19 : (s : Settings) (e : SeatEvent) → Other (refusing.refusal s e)
never_19 s e = subst Other (sym (first_held_lem s e)) (own_other s e)

-- what a record of seat n makes of its channel, and how it is answered
pub record Alone (n : ℕ) (b : Bench) (e : SeatEvent) : Type 0 where
  pub answer : (outcome b (record_of n e)).answer ≡ (channel.stepped (channel_at n b) e).answer
  pub channel : channel_at n (outcome b (record_of n e)).bench ≡ after (channel_at n b) e

pub by_kind : (n : ℕ) (b : Bench) → OnBench n b → (e : SeatEvent)
    → (let t = seat-step.stepped (seat b n) e in (seat (outcome b (record_of n e)).bench n ≡ t.seat) × ((outcome b (record_of n e)).answer ≡ t.answer))
unfolding record_of
by_kind n b on (Read register) = seat_done_lem b on.1 0 n register 0 (omega arith) on.0
by_kind n b on (Write register byte) = seat_done_lem b on.1 1 n register byte (omega arith) on.0
by_kind n b on (Arrival marks byte) = seat_done_lem b on.1 2 n marks byte (omega arith) on.0
by_kind n b on (Levels levels) = seat_done_lem b on.1 3 n 0 levels (omega arith) on.0
by_kind n b on Time = seat_done_lem b on.1 4 n 0 0 (omega arith) on.0

-- the seat's own number, as its record's answer tells it
pub number_at : (n : ℕ) (b : Bench) → OnBench n b → (e : SeatEvent) → refusal_of (outcome b (record_of n e)).answer ≡ seat-step.refusal (seat b n) e
number_at n b on e = ap refusal_of (by_kind n b on e).1 ∙ seat-laws.step_number (seat b n) e

pub alone : (n : ℕ) (b : Bench) → OnBench n b → (e : SeatEvent) → eqb (refusal_of (outcome b (record_of n e)).answer) 19 ≡ false → Alone n b e
alone n b on e other =
    let did = by_kind n b on e in
    let told = seat-laws.by_channel (seat b n) e (ap (λ (k : ℕ). eqb k 19) (sym (number_at n b on e)) ∙ other) in
    record {
      answer = did.1 ∙ ap (λ (t : Stepped). t.answer) told;
      channel = ap (λ (s : Seat). s.channel) did.0 ∙ ap (λ (t : Stepped). t.channel) told;
    }

-- an event that receives nothing is never refused by the tally
unheard : (n : ℕ) (b : Bench) → OnBench n b → (e : SeatEvent) → seat-step.refusal (seat b n) e ≡ refusing.refusal (channel_at n b).settings e → Alone n b e
unheard n b on e own = alone n b on e (ap (λ (k : ℕ). eqb k 19) (number_at n b on e ∙ own) ∙ never_19 (channel_at n b).settings e)

read_alone : (n : ℕ) (b : Bench) → OnBench n b → (k : ℕ) → Alone n b (Read k)
read_alone n b on k = unheard n b on (Read k) (read_own (seat b n) k)

write_alone : (n : ℕ) (b : Bench) → OnBench n b → (k byte : ℕ) → Alone n b (Write k byte)
write_alone n b on k byte = unheard n b on (Write k byte) (write_own (seat b n) k byte)

levels_alone : (n : ℕ) (b : Bench) → OnBench n b → (levels : ℕ) → Alone n b (Levels levels)
levels_alone n b on levels = unheard n b on (Levels levels) (levels_own (seat b n) levels)

-- what is refused by the tally leaves the seat as it was
full_leaves : (n : ℕ) (b : Bench) → OnBench n b → (e : SeatEvent) → eqb (refusal_of (outcome b (record_of n e)).answer) 19 ≡ true
    → channel_at n (outcome b (record_of n e)).bench ≡ channel_at n b
full_leaves n b on e full =
    let is : seat-step.refusal (seat b n) e ≡ 19 = sym (number_at n b on e) ∙ eqb-true _ 19 full in
    ap (λ (s : Seat). s.channel) (by_kind n b on e).0
    ∙ ap (λ (t : Replied). t.seat.channel) (seat-laws.step_refused (seat b n) e (ap (λ (k : ℕ). eqb k 0) is))

still_on : (n : ℕ) (b : Bench) → OnBench n b → (r : Record) → OnBench n (outcome b r).bench
still_on n b on r = (on.0, all_kept b r ∙ on.1)

-- and a run of them a run of those
record AloneAll (n : ℕ) (b : Bench) (es : List SeatEvent) : Type 0 where
  answers : answers_at n b es ≡ answers_to (channel_at n b) es
  channel : channel_at n (after_at n b es) ≡ after_events (channel_at n b) es
  on : OnBench n (after_at n b es)

alone_all : (n : ℕ) (es : List SeatEvent) (b : Bench) → OnBench n b → NoneFull n b es → AloneAll n b es
unfolding after_events answers_to
alone_all n [] b on none = record { answers = refl; channel = refl; on = on }
alone_all n (e ∷ es) b on none =
    let two = neither (eqb (refusal_of (outcome b (record_of n e)).answer) 19) (some_full (answers_at n (outcome b (record_of n e)).bench es)) none in
    let one = alone n b on e two.0 in
    let rest = alone_all n es (outcome b (record_of n e)).bench (still_on n b on (record_of n e)) two.1 in
    record {
      answers =
          ap₂ (λ (a : Answer) (l : List Answer). a ∷ l) one.answer (rest.answers ∙ ap (λ (c : Channel). answers_to c es) one.channel);
      channel = rest.channel ∙ ap (λ (c : Channel). after_events c es) one.channel;
      on = rest.on;
    }

-- what MSR shows of the channel
msr_at_lem : (n : ℕ) (b : Bench) → OnBench n b → msr_at n b ≡ shown (channel_at n b) 6
msr_at_lem n b on = ap value_of (read_alone n b on 6).answer

msr_after : (n : ℕ) (b : Bench) → OnBench n b → (e : SeatEvent) (c : Channel) → channel_at n (outcome b (record_of n e)).bench ≡ c
    → msr_at n (after_at n b (e ∷ [])) ≡ shown c 6
msr_after n b on e c is = msr_at_lem n (after_at n b (e ∷ [])) (still_on n b on (record_of n e)) ∙ ap (λ (d : Channel). shown d 6) is

-- ---- the modem inputs

pub fed_back_lem : FedBack
fed_back_lem n b on inside =
    subst (ShowsOutputs (channel_at n b).settings.mcr) (sym (msr_at_lem n b on ∙ shows_msr (channel_at n b))) (msr_looped (channel_at n b) inside)

noticed_at : (n : ℕ) (b : Bench) → OnBench n b → (e : SeatEvent) → Alone n b e → Noticed (shown (channel_at n b) 6) (shown (after (channel_at n b) e) 6)
    → Noticed (msr_at n b) (msr_at n (after_at n b (e ∷ [])))
noticed_at n b on e by so =
    subst (λ (before : ℕ). Noticed before (msr_at n (after_at n b (e ∷ [])))) (sym (msr_at_lem n b on))
    (subst (Noticed (shown (channel_at n b) 6)) (sym (msr_after n b on e _ by.channel)) so)

pub changes_noticed : ChangesNoticed
changes_noticed n b on = (
  λ levels small. noticed_at n b on (Levels levels) (levels_alone n b on levels) (levels_noticed (channel_at n b) levels small),
  λ byte. noticed_at n b on (Write 4 byte) (write_alone n b on 4 byte) (mcr_noticed (channel_at n b) byte),
)

pub changes_stand : ChangesStand
changes_stand n b on e none k less =
    ⊎_elim
    (λ (full : eqb (refusal_of (outcome b (record_of n e)).answer) 19 ≡ true).
    ap (bit k) (msr_after n b on e _ (full_leaves n b on e full) ∙ sym (msr_at_lem n b on)))
    (λ (other : eqb (refusal_of (outcome b (record_of n e)).answer) 19 ≡ false).
    ap (bit k) (msr_after n b on e _ (alone n b on e other).channel) ∙ changes_stay (channel_at n b) e none k less ∙ ap (bit k) (sym (msr_at_lem n b on)))
    (either_way (eqb (refusal_of (outcome b (record_of n e)).answer) 19))

pub reset_sets_none : ResetSetsNone
reset_sets_none n b on k less =
    let later = (outcome b (whole 5 0 0 0)).bench in
    ap (bit k) (msr_at_lem n later (still_on n b on (whole 5 0 0 0)) ∙ shows_msr (channel_at n later))
    ∙ ap (λ (s : Seat). bit k (channel-status.msr s.channel)) (reset_done b on.1 n 0 0 0) ∙ reset_changes (channel_at n b) k less

-- ---- what comes from outside

-- of an arrival in loopback, and of a character time with nothing to leave, the tally is not asked
outside_own : (n : ℕ) (b : Bench) (marks byte : ℕ) → in_loopback (channel_at n b) ≡ true
    → seat-step.refusal (seat b n) (Arrival marks byte) ≡ refusing.refusal (channel_at n b).settings (Arrival marks byte)
outside_own n b marks byte inside =
    seat-laws.own_number (seat b n) (Arrival marks byte)
    (seat-laws.unheard_own (seat b n) (Arrival marks byte) (figures.arrival_unheard (channel_at n b) marks byte inside).arrived_is)

idle_own : (n : ℕ) (b : Bench) → (channel_at n b).transmitter.busy ≡ false → seat-step.refusal (seat b n) Time ≡ refusing.refusal (channel_at n b).settings Time
idle_own n b empty =
    let c = channel_at n b in
    seat-laws.own_number (seat b n) Time
    (seat-laws.unheard_own (seat b n) Time
    (figures.time_unheard c (ap (λ (x : Bool). in_loopback c && x) empty ∙ and-false (in_loopback c))).arrived_is)

own_of : (n : ℕ) (b : Bench) → in_loopback (channel_at n b) ≡ true → (e : SeatEvent) → leaves (channel_at n b) e ≡ false
    → seat-step.refusal (seat b n) e ≡ refusing.refusal (channel_at n b).settings e
own_of n b inside (Read k) none = read_own (seat b n) k
own_of n b inside (Write k byte) none = write_own (seat b n) k byte
own_of n b inside (Arrival marks byte) none = outside_own n b marks byte inside
own_of n b inside (Levels levels) none = levels_own (seat b n) levels
own_of n b inside Time none = idle_own n b none

pub arrivals_unheard : ArrivalsUnheard
arrivals_unheard n b on inside =
    let c = channel_at n b in
    record {
      checked = λ e none. ap refusal_of (alone n b on e (neither _ false none).0).answer ∙ step_number c e ∙ sym (mcr_has_no_part c.settings 0 e);
      untallied = λ e none.
          ap (λ (k : ℕ). eqb k 19 || false) (number_at n b on e ∙ own_of n b inside e none)
          ∙ or-false _ ∙ never_19 c.settings e;
      unchanged = λ marks byte. (unheard n b on (Arrival marks byte) (outside_own n b marks byte inside)).channel ∙ arrival_unheard c inside marks byte;
    }

pub levels_kept : LevelsKept
levels_kept n b on inside sound levels small =
    (levels_alone n b on levels).channel ∙ ap (λ (s : Stepped). s.channel) (levels_remembered (channel_at n b) inside sound levels small)

pub levels_last_on : LevelsLast
levels_last_on n b on [] none = refl
levels_last_on n b on (e ∷ es) none =
    let two = neither (gives_levels e) (some_give es) none in
    levels_last_on n (outcome b (record_of n e)).bench (still_on n b on (record_of n e)) es two.1
    ∙ ⊎_elim
    (λ (full : eqb (refusal_of (outcome b (record_of n e)).answer) 19 ≡ true). ap (λ (c : Channel). c.modem.levels) (full_leaves n b on e full))
    (λ (other : eqb (refusal_of (outcome b (record_of n e)).answer) 19 ≡ false).
    ap (λ (c : Channel). c.modem.levels) (alone n b on e other).channel ∙ levels_stay (channel_at n b) e two.0)
    (either_way (eqb (refusal_of (outcome b (record_of n e)).answer) 19))

-- ---- what is sent

-- reads are never refused by the tally
reading_full : (n k : ℕ) (b : Bench) → OnBench n b → NoneFull n b (reading k)
reading_full n zero b on = refl
reading_full n (suc k) b on =
    ap₂ (λ (x y : Bool). x || y) (ap (λ (m : ℕ). eqb m 19) (number_at n b on (Read 0) ∙ read_own (seat b n) 0) ∙ never_19 (channel_at n b).settings (Read 0))
    (reading_full n k (outcome b (record_of n (Read 0))).bench (still_on n b on (record_of n (Read 0))))

has_divisor : (c : Channel) → eqb (divisor c.settings) 0 ≡ false → undivided c.settings ≡ false
has_divisor c some = sym (divisor_none c.settings) ∙ some

pub sent_is_received : SentIsReceived
unfolding capacity
sent_is_received n b on inside rest bytes fits none =
    let c = channel_at n b in
    let events = sending bytes (suc (length bytes)) in
    let going = has_divisor c rest.divided in
    let did = alone_all n events b on none in
    record {
      answered = did.answers ∙ sent_idle c rest.sound inside going rest.thr_reached rest.sent rest.none bytes fits;
      waiting =
          ap (λ (d : Channel). contents d.receiver.queue) did.channel
          ∙ ap contents (sent_received c rest.sound inside going rest.thr_reached rest.sent rest.none bytes fits)
          ∙ contents_of (cut_to c.settings.lcr bytes);
      read =
          (alone_all n (reading (length bytes)) (after_at n b events) did.on (reading_full n (length bytes) (after_at n b events) did.on)).answers
          ∙ ap (λ (d : Channel). answers_to d (reading (length bytes))) did.channel
          ∙ sent_read c rest.sound inside going rest.thr_reached rest.sent rest.none bytes fits;
    }

pub leaver_is_received : LeaverReceived
leaver_is_received n b on inside some full none =
    let c = channel_at n b in
    ap (λ (d : Channel). d.receiver) (alone n b on Time (neither _ false none).0).channel ∙ leaver_received c inside (has_divisor c some) full

pub idle_receives_nothing : IdleReceivesNothing
idle_receives_nothing n b on inside some empty =
    let c = channel_at n b in
    ap (λ (d : Channel). d.receiver) (unheard n b on Time (idle_own n b empty)).channel ∙ none_received c inside (has_divisor c some) empty

-- ---- sound seats

pub seats_sound : SeatsSound
seats_sound n b ok = (sound_parts (seat b n) (at_seat_lem b (valid-parts b ok) n)).0

-- ---- outside loopback

pub outside_as_before : OutsideAsBefore
outside_as_before n b on outside sound es none counted =
    let did = alone_all n es b on counted in
    let so = as_then es (channel_at n b) sound outside none in
    record { answers = did.answers ∙ so.answers; channel = did.channel ∙ so.channel }
