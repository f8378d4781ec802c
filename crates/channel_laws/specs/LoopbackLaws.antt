-- Ticket 7, loopback: what comes from outside is not heard, and what is sent is received.
use Rattle.std.specs.Prelude.{ℕ, ◌<◌, Bool, true, false, ◌||◌, List, [], ◌∷◌, ◌≡◌, refl}
use Rattle.std.proofs.Math.Bool.{◌&&◌}
use Rattle.std.proofs.Math.Path.{ap}
use Rattle.std.proofs.Common.{ap₂, ◌∙◌}
use Rattle.std.proofs.Math.Logic.{⊎_elim}
use Rattle.base.specs.PickLaws.{pick_true, either_way, neither}
use Rattle.base.specs.declared.Answer.TheVariants.{Done}
use Rattle.receiver.specs.Receiver.{received, waited}
use Rattle.registers.specs.declared.SeatEvent.{SeatEvent}
use Rattle.registers.specs.declared.SeatEvent.TheVariants.{Arrival, Levels, Time}
use Rattle.registers.specs.Words.{cut}
use Rattle.registers.specs.Modem.{changes_after}
use Rattle.registers.proofs.LoopbackLaws.{inputs_remembered, unchanged}
use Rattle.registers.proofs.RefusalLaws.{undivided, accepts}
use Rattle.channel.specs.declared.Channel.{Channel}
use Rattle.channel.specs.declared.Stepped.{Stepped}
use Rattle.channel.specs.Parts.{with_receiver, with_modem, fifo, in_loopback}
use Rattle.channel.specs.Status.{inputs}
use Rattle.channel.specs.Effects.{receives, heard_outside, after_arrival, heard_back}
use Rattle.channel.specs.Steps.{effect, stepped}
use Rattle.channel.specs.Sound.{sound_channel}
use Rattle.channel_laws.specs.SoundLaws.{parts}
use Rattle.channel_laws.specs.RefusalLaws.{done, refused}
use Rattle.channel_laws.specs.WireLaws.{levels_taken}
use Rattle.channel_laws.specs.SideLaws.{time_shifts, none_back}
use Rattle.channel_laws.specs.LevelLaws.{gives_levels, levels_stay}
use Rattle.channel_laws.specs.Shown.{after}
use Rattle.channel_laws.specs.Sends.{after_events}

-- ---- from outside

module _ (c : Channel) (inside : in_loopback c ≡ true) where
  -- ticket 7: "an arrival changes nothing": accepted or refused, it leaves an equal channel
  pub arrival_unheard : (marks byte : ℕ) → after c (Arrival marks byte) ≡ c
  unfolding effect after_arrival heard_outside
  arrival_unheard marks byte =
      let e = Arrival marks byte in
      ⊎_elim
      (λ (served : accepts c.settings e ≡ true). ap (λ (s : Stepped). s.channel) (done c e served) ∙ ap (with_receiver c) (pick_true _ _ _ inside))
      (λ (wrong : accepts c.settings e ≡ false). ap (λ (s : Stepped). s.channel) (refused c e wrong))
      (either_way (accepts c.settings e))

  -- ticket 7: "modem levels are only remembered": nothing else changes, no change bit either
  pub levels_remembered : sound_channel c ≡ true → (levels : ℕ) → levels < 16
      → stepped c (Levels levels) ≡ record { channel = with_modem c (record { levels = levels; changes = c.modem.changes }); answer = Done }
  levels_remembered sound levels small =
      let mcr = c.settings.mcr in
      levels_taken c levels small
      ∙ ap {B = Stepped} (λ (n : ℕ). record { channel = with_modem c (record { levels = levels; changes = n }); answer = Done })
      (ap (changes_after c.modem.changes (inputs c)) (inputs_remembered mcr levels c.modem.levels inside)
      ∙ unchanged c.modem.changes (inputs c) (parts c sound).changes)

-- ---- one character time

module _ (c : Channel) (inside : in_loopback c ≡ true) (going : undivided c.settings ≡ false) where
  -- ticket 7: "the character that leaves is received at once, cut to the word length and without marks", as any that arrives, and then the time passes
  pub leaver_received : c.transmitter.busy ≡ true
      → (after c Time).receiver
      ≡ waited (fifo c) (received (fifo c) c.receiver (record { «data» = cut c.settings.lcr c.transmitter.shift; marks = 0 }))
  unfolding heard_back receives
  leaver_received full =
      ap (λ (d : Channel). d.receiver) (time_shifts c going)
      ∙ ap (waited (fifo c)) (pick_true _ _ _ (ap₂ ◌&&◌ inside full))

  -- of an empty shift register nothing is received
  pub none_received : c.transmitter.busy ≡ false → (after c Time).receiver ≡ waited (fifo c) c.receiver
  none_received empty =
      ap (λ (d : Channel). d.receiver) (time_shifts c going) ∙ ap (waited (fifo c)) (none_back c (ap₂ ◌&&◌ inside empty))

-- ---- what was remembered lasts

-- one of these events gives new levels
abbrev pub some_give : List SeatEvent → Bool
some_give [] = false
some_give (e ∷ es) = gives_levels e || some_give es

-- over any events none of which does, the levels last given stay, in loopback or not
pub levels_last : (es : List SeatEvent) (c : Channel) → some_give es ≡ false → (after_events c es).modem.levels ≡ c.modem.levels
unfolding after_events
levels_last [] c none = refl
levels_last (e ∷ es) c none =
    let both = neither (gives_levels e) (some_give es) none in levels_last es (after c e) both.1 ∙ levels_stay c e both.0
