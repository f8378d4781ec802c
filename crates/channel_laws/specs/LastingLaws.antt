-- An event ends a time-out exactly if it is, to the receive side, one moment that does.
use Rattle.std.specs.Prelude.{ℕ, Bool, true, false, not, ◌&&◌, ◌||◌, List, [], ◌∷◌, ◌≡◌, refl, eqb}
use Rattle.std.proofs.Math.Bool.{or-false}
use Rattle.std.proofs.Common.{ap, ap₂, sym, ◌∙◌, ⊎_elim, eqb-true}
use Rattle.base.specs.PickLaws.{pick_true, pick_either, never, either_way, both_hold}
use Rattle.base.specs.Bits.{bit}
use Rattle.receiver.specs.Receiver.{none_queued}
use Rattle.receiver.specs.Ledger.{Moment, rbr, empties, changes}
use Rattle.receiver.specs.Lasting.{ending, ends_in}
use Rattle.registers.specs.declared.SeatEvent.{SeatEvent}
use Rattle.registers.specs.declared.SeatEvent.TheVariants.{Read, Write, Arrival, Levels, Time}
use Rattle.registers.specs.Refusals.{refusal}
use Rattle.registers.proofs.RefusalLaws.{accepts, accepted}
use Rattle.channel.specs.declared.Channel.{Channel}
use Rattle.channel.specs.Parts.{divisor_shown, in_loopback}
use Rattle.channel.specs.Effects.{mode_changed}
use Rattle.channel.specs.Moments.{side, arrival_moments, time_moments, accepted_moments, moments_of}
use Rattle.channel_laws.specs.Lasting.{ending_event}
use Rattle.channel_laws.specs.ShapeLaws.{rbr_read_lem, other_read, fcr_write, other_write}

-- these are one moment, and it ends a time-out
pub record OneEnds (c : Channel) (ms : List Moment) : Type 0 where
  pub moment : Moment
  pub alone : ms ≡ moment ∷ []
  pub ends : ending (side c) moment ≡ true

-- of an event
abbrev pub Ending : Channel → SeatEvent → Type 0
Ending c e = OneEnds c (moments_of c e)

-- what is accepted is its moments
accepted_ends : (c : Channel) (e : SeatEvent) → accepts c.settings e ≡ true → OneEnds c (accepted_moments c e) → Ending c e
unfolding moments_of
accepted_ends c e served one =
    record { moment = one.moment; alone = pick_true _ _ _ (accepted c.settings e ∙ served) ∙ one.alone; ends = one.ends }

-- ---- an event that ends one

pub event_ends : (c : Channel) (e : SeatEvent) → ending_event c e ≡ true → Ending c e
unfolding ending_event ending
event_ends c (Read n) e =
    let three = both_hold (eqb n 0) (not (divisor_shown c) && not (none_queued c.receiver)) e in
    let two = both_hold (not (divisor_shown c)) (not (none_queued c.receiver)) three.1 in
    accepted_ends c (Read n) (ap (λ (k : ℕ). accepts c.settings (Read k)) (eqb-true n 0 three.0))
    (record { moment = rbr; alone = rbr_read_lem c n (ap₂ (λ (a b : Bool). a && b) three.0 two.0); ends = two.1 })
event_ends c (Write n byte) e =
    let two = both_hold (eqb n 2) ((bit 0 byte && bit 1 byte) || mode_changed c byte) e in
    accepted_ends c (Write n byte) (ap (λ (k : ℕ). accepts c.settings (Write k byte)) (eqb-true n 2 two.0))
    (fcr_write c n byte (OneEnds c) e (record { moment = changes; alone = refl; ends = refl }) (record { moment = empties; alone = refl; ends = refl }))
event_ends c (Arrival marks byte) e = absurd (never e)
event_ends c (Levels levels) e = absurd (never e)
event_ends c Time e = absurd (never e)

-- ---- every other event, accepted or refused

-- no moment of these ends one
abbrev Harmless : Channel → List Moment → Type 0
Harmless c ms = ends_in (side c) ms ≡ false

access_harmless : (c : Channel) (e : SeatEvent) → ending_event c e ≡ false → Harmless c (accepted_moments c e)
unfolding ending_event accepted_moments arrival_moments time_moments ends_in ending
access_harmless c (Read n) none =
    ⊎_elim
    (λ (at : (eqb n 0 && not (divisor_shown c)) ≡ true).
    let two = both_hold (eqb n 0) (not (divisor_shown c)) at in
    ap (ends_in (side c)) (rbr_read_lem c n at) ∙ or-false _
    ∙ sym (ap₂ (λ (a b : Bool). a && (b && not (none_queued c.receiver))) two.0 two.1) ∙ none)
    (λ (other : (eqb n 0 && not (divisor_shown c)) ≡ false). other_read c n (Harmless c) other refl refl)
    (either_way (eqb n 0 && not (divisor_shown c)))
access_harmless c (Write n byte) none = other_write c n byte (Harmless c) none refl
access_harmless c (Arrival marks byte) none = pick_either (Harmless c) (in_loopback c) _ _ refl refl
access_harmless c (Levels levels) none = refl
access_harmless c Time none = pick_either (Harmless c) (in_loopback c && c.transmitter.busy) _ _ refl refl

pub event_leaves : (c : Channel) (e : SeatEvent) → ending_event c e ≡ false → ends_in (side c) (moments_of c e) ≡ false
unfolding moments_of ends_in
event_leaves c e none = pick_either (Harmless c) (eqb (refusal c.settings e) 0) _ _ (access_harmless c e none) refl
