-- The wire: what a character time is answered with, and what new modem levels leave.
use Rattle.std.specs.Prelude.{ℕ, ◌+◌, ◌%◌, ◌^◌, ◌<◌, Bool, true, false, ◌&&◌, ◌≡◌, ◌⊎◌}
use Rattle.std.proofs.Math.Bool.{not}
use Rattle.std.proofs.Math.Path.{ap}
use Rattle.std.proofs.Common.{sym, ◌∙◌, inl, inr, ⊎_elim, lt-ltb}
use Rattle.base.specs.Pick.{pick}
use Rattle.base.specs.PickLaws.{pick_true, pick_false, either_way}
use Rattle.base.specs.Bits.{bit}
use Rattle.base.specs.declared.Answer.TheVariants.{Done, Sent, Idle, Break}
use Rattle.receiver.specs.declared.Receiver.{Receiver}
use Rattle.receiver.specs.Receiver.{received, waited}
use Rattle.channel.specs.declared.Channel.{Channel}
use Rattle.channel.specs.declared.Stepped.{Stepped}
use Rattle.registers.specs.declared.SeatEvent.TheVariants.{Levels, Time}
use Rattle.channel.specs.Parts.{with_settings, with_receiver, with_modem, fifo, in_loopback}
use Rattle.registers.specs.Words.{cut}
use Rattle.registers.specs.Registers.{with_lcr}
use Rattle.registers.specs.Modem.{changes_after}
use Rattle.registers.specs.Loopback.{inputs_of}
use Rattle.channel.specs.Status.{inputs}
use Rattle.channel.specs.Effects.{noticed, receives, after_levels, heard_back, after_time, time_answer}
use Rattle.channel.specs.Steps.{effect, stepped}
use Rattle.registers.proofs.RefusalLaws.{undivided}
use Rattle.channel_laws.specs.RefusalLaws.{done, refused}

module _ (c : Channel) (going : undivided c.settings ≡ false) where
  answered : (stepped c Time).answer ≡ time_answer c
  unfolding effect
  answered = ap (λ s. s.answer) (done c Time (ap not going))

  -- ticket 7: in loopback "the answer is 100, even with break set", whatever the shift register holds
  pub looped_idle : in_loopback c ≡ true → (stepped c Time).answer ≡ Idle
  unfolding time_answer
  looped_idle looped = answered ∙ pick_true _ _ _ looped

  module _ (outside : in_loopback c ≡ false) where
    outside_told : (stepped c Time).answer ≡ pick (bit 6 c.settings.lcr) Break (pick c.transmitter.busy (Sent (cut c.settings.lcr c.transmitter.shift)) Idle)
    unfolding time_answer
    outside_told = answered ∙ pick_false _ _ _ outside

    -- outside it: break, whatever the shift register holds
    pub broken : bit 6 c.settings.lcr ≡ true → (stepped c Time).answer ≡ Break
    broken set = outside_told ∙ pick_true _ _ _ set

    -- else the byte of a full shift register, cut
    pub sent : bit 6 c.settings.lcr ≡ false → c.transmitter.busy ≡ true → (stepped c Time).answer ≡ Sent (cut c.settings.lcr c.transmitter.shift)
    sent clear full = outside_told ∙ pick_false _ _ _ clear ∙ pick_true _ _ _ full

    -- and of an empty one none
    pub idle : bit 6 c.settings.lcr ≡ false → c.transmitter.busy ≡ false → (stepped c Time).answer ≡ Idle
    idle clear empty = outside_told ∙ pick_false _ _ _ clear ∙ pick_false _ _ _ empty

-- another LCR
abbrev relined : Channel → ℕ → Channel
relined c lcr = with_settings c (with_lcr c.settings lcr)

-- which leaves what the receive side hears: outside loopback, and in it where the word length is the same
abbrev HeardAlike : Channel → ℕ → Type 0
HeardAlike c lcr = (in_loopback c ≡ false) ⊎ (lcr % 4 ≡ c.settings.lcr % 4)

heard_alike : (c : Channel) (lcr : ℕ) → HeardAlike c lcr → heard_back (relined c lcr) ≡ heard_back c
unfolding heard_back receives cut
heard_alike c lcr (inl outside) =
    let none = ap (λ (b : Bool). b && c.transmitter.busy) outside in pick_false _ _ _ none ∙ sym (pick_false _ _ _ none)
heard_alike c lcr (inr same) =
    ap
    (λ (n : ℕ). pick (in_loopback c && c.transmitter.busy) (received (fifo c) c.receiver (record { «data» = c.transmitter.shift % 2 ^ (5 + n); marks = 0 })) c.receiver)
    same

-- "With LCR bit 6 set the answer is 200, and all else goes on.": outside loopback no bit of the LCR has a part in it, and in loopback the word length
-- alone, to which what leaves is cut
pub goes_on : (c : Channel) (lcr : ℕ) → HeardAlike c lcr → after_time (relined c lcr) ≡ with_settings (after_time c) (with_lcr c.settings lcr)
unfolding after_time
goes_on c lcr alike = ap (λ (r : Receiver). with_receiver (with_settings (after_time c) (with_lcr c.settings lcr)) (waited (fifo c) r)) (heard_alike c lcr alike)

-- so over the step: the character that moves in under break, the one received in loopback, the flag and the counts are those of a character time
-- without it
pub time_goes_on : (c : Channel) (lcr : ℕ) → HeardAlike c lcr
    → (stepped (with_settings c (with_lcr c.settings lcr)) Time).channel ≡ with_settings (stepped c Time).channel (with_lcr c.settings lcr)
unfolding effect
time_goes_on c lcr alike =
    let other = with_lcr c.settings lcr in
    let d = with_settings c other in
    ⊎_elim
    (λ (none : undivided c.settings ≡ true).
    ap (λ (s : Stepped). s.channel) (refused d Time (ap not none))
    ∙ sym (ap (λ (s : Stepped). with_settings s.channel other) (refused c Time (ap not none))))
    (λ (going : undivided c.settings ≡ false).
    ap (λ (s : Stepped). s.channel) (done d Time (ap not going)) ∙ goes_on c lcr alike
    ∙ sym (ap (λ (s : Stepped). with_settings s.channel other) (done c Time (ap not going))))
    (either_way (undivided c.settings))

-- levels below 16 are remembered as they are, with the changes from the inputs before to the inputs after; nothing else changes
pub levels_taken : (c : Channel) (levels : ℕ) → levels < 16
    → stepped c (Levels levels)
    ≡ record {
      channel = with_modem c (record { levels = levels; changes = changes_after c.modem.changes (inputs c) (inputs_of c.settings.mcr levels) });
      answer = Done;
    }
unfolding effect after_levels noticed
levels_taken c levels small = done c (Levels levels) (lt-ltb levels 16 small)
