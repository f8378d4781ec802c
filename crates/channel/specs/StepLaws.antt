-- A seat's step as its caller sees it: whether it was refused can be read off the answer.
use Rattle.std.specs.Prelude.{true, false, ◌≡◌, refl, eqb}
use Rattle.std.proofs.Common.{ap, sym, ◌∙◌, ⊎_elim, eqb-true}
use Rattle.base.specs.PickLaws.{pick_true, pick_false, pick_either, either_way}
use Rattle.base.specs.Bits.{bit}
use Rattle.base.specs.Answers.{refusal_of}
use Rattle.base.specs.declared.Answer.{Answer}
use Rattle.base.specs.declared.Answer.TheVariants.{Refused}
use Rattle.channel.specs.declared.Channel.{Channel}
use Rattle.channel.specs.declared.Stepped.{Stepped}
use Rattle.registers.specs.declared.SeatEvent.{SeatEvent}
use Rattle.registers.specs.declared.SeatEvent.TheVariants.{Read, Write, Arrival, Levels, Time}
use Rattle.channel.specs.Effects.{answer_at, time_answer}
use Rattle.registers.specs.declared.Register.{Register}
use Rattle.registers.specs.declared.Register.TheVariants.{RbrThr, Ier, IirFcr, Lcr, Mcr, Lsr, Msr, Scratch, Dll, Dlm}
use Rattle.registers.specs.Registers.{register_at}
use Rattle.registers.specs.Refusals.{refusal}
use Rattle.channel.specs.Parts.{divisor_shown, in_loopback}
use Rattle.channel.specs.Steps.{effect, stepped}

-- an answer that tells no refusal
abbrev Taken : Answer → Type 0
Taken a = refusal_of a ≡ 0

-- what is done is answered with no refusal
time_taken : (c : Channel) → refusal_of (time_answer c) ≡ 0
unfolding time_answer refusal_of
time_taken c =
    pick_either Taken (in_loopback c) _ _ refl
    (pick_either Taken (bit 6 c.settings.lcr) _ _ refl (pick_either Taken c.transmitter.busy _ _ refl refl))

read_taken : (c : Channel) (r : Register) → refusal_of (answer_at c r) ≡ 0
unfolding answer_at refusal_of
read_taken c RbrThr = refl
read_taken c Ier = refl
read_taken c IirFcr = refl
read_taken c Lcr = refl
read_taken c Mcr = refl
read_taken c Lsr = refl
read_taken c Msr = refl
read_taken c Scratch = refl
read_taken c Dll = refl
read_taken c Dlm = refl

pub effect_taken : (c : Channel) (e : SeatEvent) → refusal_of (effect c e).answer ≡ 0
unfolding effect refusal_of
effect_taken c (Read n) = read_taken c (register_at (divisor_shown c) n)
effect_taken c (Write n byte) = refl
effect_taken c (Arrival marks byte) = refl
effect_taken c (Levels levels) = refl
effect_taken c Time = time_taken c

pub step_taken : (c : Channel) (e : SeatEvent) → eqb (refusal c.settings e) 0 ≡ true → stepped c e ≡ effect c e
unfolding stepped
step_taken c e none = pick_true _ _ _ none

pub step_refused : (c : Channel) (e : SeatEvent) → eqb (refusal c.settings e) 0 ≡ false → stepped c e ≡ record { channel = c; answer = Refused (refusal c.settings e) }
unfolding stepped
step_refused c e some = pick_false _ _ _ some

-- the number in the answer is the refusal's
pub step_number : (c : Channel) (e : SeatEvent) → refusal_of (stepped c e).answer ≡ refusal c.settings e
unfolding refusal_of
step_number c e =
    ⊎_elim
    (λ (none : eqb (refusal c.settings e) 0 ≡ true).
    ap (λ (s : Stepped). refusal_of s.answer) (step_taken c e none) ∙ effect_taken c e ∙ sym (eqb-true (refusal c.settings e) 0 none))
    (λ (some : eqb (refusal c.settings e) 0 ≡ false). ap (λ (s : Stepped). refusal_of s.answer) (step_refused c e some))
    (either_way (eqb (refusal c.settings e) 0))
