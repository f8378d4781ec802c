-- The receive side of a seat after what befell it; an RBR read is answered with the character that it takes; and power-up.
use Rattle.std.specs.Prelude.{◌≡◌, true, false, List, [], ◌∷◌, ◌==◌, nat_eq, refl}
use Rattle.std.proofs.Common.{ap, sym, subst, ◌∙◌, ⊎_elim}
use Rattle.base.specs.PickLaws.{pick_true, pick_false, either_way}
use Rattle.receiver.specs.Ledger.{Moment, Side, after_all, read_in, queued}
use Rattle.receiver.proofs.SideLaws.{after_both}
use Rattle.receiver.proofs.SoundLaws as receiver
use Rattle.registers.specs.declared.SeatEvent.{SeatEvent}
use Rattle.channel.specs.Moments.{accepted_moments, told_in}
use Rattle.channel_laws.specs.MomentLaws as channel
use Rattle.seat.specs.declared.Seat.{Seat}
use Rattle.seat.specs.declared.Replied.{Replied}
use Rattle.seat.specs.Seats.{power_up}
use Rattle.seat.specs.Steps.{refusal, effect, stepped}
use Rattle.seat.specs.StepLaws.{step_taken, step_refused}
use Rattle.seat.specs.Acts.{Act, event, resets, acted, acted_all}
use Rattle.seat.specs.Receiving.{side, moments_of, befalls_by, befalling, receives_soundly}

-- the side after an event is the side after the moments of the event
pub step_side : (s : Seat) (e : SeatEvent) → side (stepped s e).seat ≡ after_all (side s) (moments_of s e)
unfolding effect after_all
step_side s e =
    ⊎_elim
    (λ (none : nat_eq (refusal s e) 0 ≡ true).
    ap (λ (t : Replied). side t.seat) (step_taken s e none) ∙ channel.effect_side s.channel e ∙ ap (after_all (side s)) (sym (pick_true _ _ _ none)))
    (λ (some : nat_eq (refusal s e) 0 ≡ false).
    ap (λ (t : Replied). side t.seat) (step_refused s e some) ∙ ap (after_all (side s)) (sym (pick_false _ (accepted_moments s.channel e) [] some)))
    (either_way (refusal s e == 0))

pub acted_side : (s : Seat) (a : Act) → side (acted s a) ≡ after_all (side s) (befalls_by s a)
acted_side s (event e) = step_side s e
acted_side s resets = channel.reset_side s.channel

-- and so after any number of acts
pub acts_side : (s : Seat) (acts : List Act) → side (acted_all s acts) ≡ after_all (side s) (befalling s acts)
unfolding after_all
acts_side s [] = refl
acts_side s (a ∷ rest) =
    acts_side (acted s a) rest ∙ ap (λ (x : Side). after_all x (befalling (acted s a) rest)) (acted_side s a)
    ∙ sym (after_both (side s) (befalls_by s a) (befalling (acted s a) rest))

-- what the answer tells is what is read
pub step_told : (s : Seat) (e : SeatEvent) → told_in (side s) (stepped s e).answer (moments_of s e) ≡ read_in (side s) (moments_of s e)
unfolding effect told_in read_in
step_told s e =
    ⊎_elim
    (λ (none : nat_eq (refusal s e) 0 ≡ true).
    subst (λ (ms : List Moment). told_in (side s) (stepped s e).answer ms ≡ read_in (side s) ms) (sym (pick_true _ _ _ none))
    (subst (λ (t : Replied). told_in (side s) t.answer (accepted_moments s.channel e) ≡ read_in (side s) (accepted_moments s.channel e))
    (sym (step_taken s e none)) (channel.effect_told s.channel e)))
    (λ (some : nat_eq (refusal s e) 0 ≡ false).
    subst (λ (ms : List Moment). told_in (side s) (stepped s e).answer ms ≡ read_in (side s) ms)
    (sym (pick_false _ (accepted_moments s.channel e) [] some)) refl)
    (either_way (refusal s e == 0))

-- ---- at power-up nothing is queued, and the side is sound

pub power_up_queued : queued (side power_up) ≡ []
power_up_queued = refl

pub power_up_receives : receives_soundly power_up ≡ true
power_up_receives = receiver.power_up_sound (side power_up).fifo
