-- Sound at power-up, after every event, refused or not, and after a master reset; and what befell a sound seat since some point is in its tallies.
use Rattle.std.specs.Prelude.{◌≡◌, Bool, true, false, ◌&&◌, List, [], ◌∷◌, ◌==◌, nat_eq, refl}
use Rattle.std.proofs.Common.{ap₂, sym, subst, ⊎_elim}
use Rattle.base.specs.PickLaws.{both_hold, either_way}
use Rattle.receiver.specs.Ledger.{Side}
use Rattle.registers.specs.declared.SeatEvent.{SeatEvent}
use Rattle.channel.specs.declared.Stepped.{Stepped}
use Rattle.channel.specs.Sound.{sound_channel}
use Rattle.channel.specs.StepLaws as channel-taken
use Rattle.channel_laws.specs.SoundLaws as channel
use Rattle.channel_laws.specs.SoundStepLaws as channel-step
use Rattle.seat.specs.declared.Seat.{Seat}
use Rattle.seat.specs.declared.Replied.{Replied}
use Rattle.seat.specs.Tallies.{no_tallies, add_up}
use Rattle.seat.specs.Seats.{power_up, reset, queued}
use Rattle.seat.specs.Steps.{refusal, effect, stepped}
use Rattle.seat.specs.StepLaws.{step_taken, step_refused, taken_own}
use Rattle.seat.specs.Acts.{Act, event, resets, acted, acted_all}
use Rattle.seat.specs.Receiving.{side, befalls_by, befalling}
use Rattle.seat.specs.ReceivingLaws.{acted_side}
use Rattle.seat.specs.Sound.{sound}
use Rattle.seat.specs.TallyLaws.{Moved, still, acted_moved, effect_adds, reset_adds, moved_both}

-- its channel is sound, and its tallies add up
pub sound_parts : (s : Seat) → sound s ≡ true → (sound_channel s.channel ≡ true) × (add_up s.tallies (queued s) ≡ true)
sound_parts s = both_hold (sound_channel s.channel) (add_up s.tallies (queued s))

pub sound_whole : (s : Seat) → sound_channel s.channel ≡ true → add_up s.tallies (queued s) ≡ true → sound s ≡ true
sound_whole s c t = ap₂ (λ (a b : Bool). a && b) c t

none_adds : add_up no_tallies 0 ≡ true
unfolding add_up
none_adds = refl

pub power_up_sound : sound power_up ≡ true
power_up_sound = sound_whole power_up channel.power_up_sound none_adds

effect_sound : (s : Seat) (e : SeatEvent) → (refusal s e == 0) ≡ true → sound s ≡ true → sound (effect s e).seat ≡ true
unfolding effect
effect_sound s e none before =
    let two = sound_parts s before in
    sound_whole (effect s e).seat
    (subst (λ (t : Stepped). sound_channel t.channel ≡ true) (channel-taken.step_taken s.channel e (taken_own s e none))
    (channel-step.step_sound s.channel e two.0))
    (effect_adds s e none two.0 two.1)

pub step_sound : (s : Seat) (e : SeatEvent) → sound s ≡ true → sound (stepped s e).seat ≡ true
step_sound s e before =
    ⊎_elim
    (λ (none : nat_eq (refusal s e) 0 ≡ true). subst (λ (t : Replied). sound t.seat ≡ true) (sym (step_taken s e none)) (effect_sound s e none before))
    (λ (some : nat_eq (refusal s e) 0 ≡ false). subst (λ (t : Replied). sound t.seat ≡ true) (sym (step_refused s e some)) before)
    (either_way (refusal s e == 0))

pub reset_sound : (s : Seat) → sound s ≡ true → sound (reset s) ≡ true
reset_sound s before =
    let two = sound_parts s before in
    sound_whole (reset s) (channel.reset_sound s.channel two.0) (reset_adds s two.0 two.1)

pub acted_sound : (s : Seat) (a : Act) → sound s ≡ true → sound (acted s a) ≡ true
acted_sound s (event e) before = step_sound s e before
acted_sound s resets before = reset_sound s before

-- and so after any number of them
pub acts_sound : (s : Seat) (acts : List Act) → sound s ≡ true → sound (acted_all s acts) ≡ true
acts_sound s [] before = before
acts_sound s (a ∷ rest) before = acts_sound (acted s a) rest (acted_sound s a before)

-- the tallies after some acts are those before and what the ledger has of all that befell the seat; nothing has wrapped
pub acts_moved : (s : Seat) (acts : List Act) → sound s ≡ true → Moved s.tallies (side s) (befalling s acts) (acted_all s acts).tallies
acts_moved s [] before = still s.tallies (side s)
acts_moved s (a ∷ rest) before =
    let two = sound_parts s before in
    moved_both s.tallies (acted s a).tallies (acted_all s (a ∷ rest)).tallies (side s) (befalls_by s a) (befalling (acted s a) rest)
    (acted_moved s a two.0 two.1)
    (subst (λ (x : Side). Moved (acted s a).tallies x (befalling (acted s a) rest) (acted_all s (a ∷ rest)).tallies) (acted_side s a)
    (acts_moved (acted s a) rest (acted_sound s a before)))
