-- A seat's step as its caller sees it: whether it was refused can be read off the answer; and but for 19 it is its channel's.
use Rattle.std.specs.Prelude.{◌≡◌, ℕ, ◌-◌, true, false, [], ◌∷◌, length, ◌==◌, nat_eq, nat_lt, refl}
use Rattle.std.proofs.Common.{ap, sym, ◌∙◌, ⊎_elim, arith, eqb-true, le-ltb}
use Rattle.base.specs.Pick.{pick}
use Rattle.base.specs.PickLaws.{pick_true, pick_false, not_both, either_way}
use Rattle.base.specs.Answers.{refusal_of}
use Rattle.base.specs.Refusals.{tally_full_number, refusal_order, first_held}
use Rattle.base.specs.RefusalLaws.{follows, lacks, in_order, held_behind}
use Rattle.base.specs.declared.Answer.TheVariants.{Refused}
use Rattle.receiver.specs.Ledger.{arrived_in}
use Rattle.registers.specs.declared.SeatEvent.{SeatEvent}
use Rattle.registers.specs.declared.SeatEvent.TheVariants.{Read, Write, Arrival, Levels, Time}
use Rattle.registers.specs.Refusals as registers
use Rattle.registers.proofs.RefusalLaws as registers-laws
use Rattle.channel.specs.declared.Stepped as channel
use Rattle.channel.specs.Moments.{accepted_moments}
use Rattle.channel.specs.Steps as channel-step
use Rattle.channel.specs.StepLaws as channel-laws
use Rattle.seat.specs.declared.Seat.{Seat}
use Rattle.seat.specs.declared.Replied.{Replied}
use Rattle.seat.specs.Tallies.{largest}
use Rattle.seat.specs.Steps.{would_pass, grounds, refusal, effect, stepped}

-- the grounds of every event are listed in the order
pub in_turn : (s : Seat) (e : SeatEvent) → follows refusal_order (grounds s e) ≡ true
unfolding registers.grounds
in_turn s (Read n) = refl
in_turn s (Write n byte) = refl
in_turn s (Arrival marks byte) = refl
in_turn s (Levels levels) = refl
in_turn s Time = refl

-- what is done is answered with no refusal
pub effect_taken : (s : Seat) (e : SeatEvent) → refusal_of (effect s e).answer ≡ 0
unfolding effect
effect_taken s e = channel-laws.effect_taken s.channel e

pub step_taken : (s : Seat) (e : SeatEvent) → (refusal s e == 0) ≡ true → stepped s e ≡ effect s e
unfolding stepped
step_taken s e none = pick_true _ _ _ none

pub step_refused : (s : Seat) (e : SeatEvent) → (refusal s e == 0) ≡ false → stepped s e ≡ record { seat = s; answer = Refused (refusal s e) }
unfolding stepped
step_refused s e some = pick_false _ _ _ some

-- the number in the answer is the refusal's
pub step_number : (s : Seat) (e : SeatEvent) → refusal_of (stepped s e).answer ≡ refusal s e
unfolding refusal_of
step_number s e =
    ⊎_elim
    (λ (none : nat_eq (refusal s e) 0 ≡ true).
    ap (λ (t : Replied). refusal_of t.answer) (step_taken s e none) ∙ effect_taken s e ∙ sym (eqb-true (refusal s e) 0 none))
    (λ (some : nat_eq (refusal s e) 0 ≡ false). ap (λ (t : Replied). refusal_of t.answer) (step_refused s e some))
    (either_way (refusal s e == 0))

-- ---- 19 and the channel's own

-- the number that the channel refuses an event with
abbrev pub own : Seat → SeatEvent → ℕ
own s e = registers.refusal s.channel.settings e

own_above_none : (s : Seat) (e : SeatEvent) → lacks 0 (registers.grounds s.channel.settings e) ≡ true
unfolding registers.grounds
own_above_none s (Read n) = refl
own_above_none s (Write n byte) = refl
own_above_none s (Arrival marks byte) = refl
own_above_none s (Levels levels) = refl
own_above_none s Time = refl

own_first : (s : Seat) (e : SeatEvent) → first_held (registers.grounds s.channel.settings e) ≡ own s e
unfolding registers.refusal
own_first s e = sym (in_order _ (registers-laws.in_turn s.channel.settings e))

-- the channel's own number is given where it has one; else 19 where the tally would pass, and else none
pub number_of : (s : Seat) (e : SeatEvent) → refusal s e ≡ pick (own s e == 0) (pick (would_pass s e) tally_full_number 0) (own s e)
unfolding refusal first_held
number_of s e =
    in_order (grounds s e) (in_turn s e)
    ∙ held_behind (registers.grounds s.channel.settings e) (record { number = tally_full_number; holds = would_pass s e } ∷ []) (own_above_none s e)
    ∙ ap (λ (n : ℕ). pick (n == 0) (pick (would_pass s e) tally_full_number 0) n) (own_first s e)

-- where it would not, the number is the channel's
pub own_number : (s : Seat) (e : SeatEvent) → would_pass s e ≡ false → refusal s e ≡ own s e
own_number s e within =
    number_of s e
    ∙ ⊎_elim
    (λ (none : nat_eq (own s e) 0 ≡ true). pick_true _ _ _ none ∙ pick_false _ _ _ within ∙ sym (eqb-true (own s e) 0 none))
    (λ (some : nat_eq (own s e) 0 ≡ false). pick_false _ _ _ some)
    (either_way (own s e == 0))

-- where it would, none is accepted
pub last_number_lem : (s : Seat) (e : SeatEvent) → would_pass s e ≡ true → refusal s e ≡ pick (own s e == 0) tally_full_number (own s e)
last_number_lem s e passes = number_of s e ∙ ap (λ (n : ℕ). pick (own s e == 0) n (own s e)) (pick_true _ _ _ passes)

pub last_refused : (s : Seat) (e : SeatEvent) → would_pass s e ≡ true → (refusal s e == 0) ≡ false
last_refused s e passes =
    ap (λ (n : ℕ). nat_eq n 0) (last_number_lem s e passes)
    ∙ ⊎_elim
    (λ (none : nat_eq (own s e) 0 ≡ true). ap (λ (n : ℕ). nat_eq n 0) (pick_true _ tally_full_number (own s e) none))
    (λ (some : nat_eq (own s e) 0 ≡ false). ap (λ (n : ℕ). nat_eq n 0) (pick_false _ tally_full_number (own s e) some) ∙ some)
    (either_way (own s e == 0))

-- what a seat's step leaves of its channel, and its answer
abbrev pub of_channel : Replied → channel.Stepped
of_channel t = record { channel = t.seat.channel; answer = t.answer }

refused_by_channel : (s : Seat) (e : SeatEvent) → refusal s e ≡ own s e → (own s e == 0) ≡ false → of_channel (stepped s e) ≡ channel-step.stepped s.channel e
refused_by_channel s e n some =
    ap of_channel (step_refused s e (ap (λ (k : ℕ). nat_eq k 0) n ∙ some))
    ∙ ap {B = channel.Stepped} (λ (k : ℕ). record { channel = s.channel; answer = Refused k }) n
    ∙ sym (channel-laws.step_refused s.channel e some)

within_by_channel : (s : Seat) (e : SeatEvent) → would_pass s e ≡ false → of_channel (stepped s e) ≡ channel-step.stepped s.channel e
unfolding effect
within_by_channel s e within =
    let n = own_number s e within in
    ⊎_elim
    (λ (none : nat_eq (own s e) 0 ≡ true).
    ap of_channel (step_taken s e (ap (λ (k : ℕ). nat_eq k 0) n ∙ none)) ∙ sym (channel-laws.step_taken s.channel e none))
    (λ (some : nat_eq (own s e) 0 ≡ false). refused_by_channel s e n some)
    (either_way (own s e == 0))

-- an event that is not refused by 19 is its channel's
pub by_channel : (s : Seat) (e : SeatEvent) → (refusal s e == tally_full_number) ≡ false → of_channel (stepped s e) ≡ channel-step.stepped s.channel e
by_channel s e other =
    ⊎_elim
    (λ (passes : would_pass s e ≡ true).
    ⊎_elim
    (λ (none : nat_eq (own s e) 0 ≡ true). absurd (not_both (ap (λ (n : ℕ). nat_eq n tally_full_number) (last_number_lem s e passes ∙ pick_true _ _ _ none)) other))
    (λ (some : nat_eq (own s e) 0 ≡ false). refused_by_channel s e (last_number_lem s e passes ∙ pick_false _ _ _ some) some)
    (either_way (own s e == 0)))
    (λ (within : would_pass s e ≡ false). within_by_channel s e within)
    (either_way (would_pass s e))

-- what a seat accepts, its channel does
pub taken_own : (s : Seat) (e : SeatEvent) → (refusal s e == 0) ≡ true → (own s e == 0) ≡ true
taken_own s e taken =
    ⊎_elim
    (λ (none : nat_eq (own s e) 0 ≡ true). none)
    (λ (some : nat_eq (own s e) 0 ≡ false).
    absurd (not_both taken (ap (λ (n : ℕ). nat_eq n 0) (number_of s e ∙ pick_false _ _ _ some) ∙ some)))
    (either_way (own s e == 0))

-- and what is none of the receive side's, or receives nothing, is never refused by 19
pub unheard_own : (s : Seat) (e : SeatEvent) → length (arrived_in (accepted_moments s.channel e)) ≡ 0 → would_pass s e ≡ false
unheard_own s e none = ap (nat_lt (largest - s.tallies.arrived)) none ∙ le-ltb (largest - s.tallies.arrived) 0 (omega arith)
