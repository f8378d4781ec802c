-- Ticket 7: outside loopback every event but an MCR write with bit 4 set is as it was before, and so is any run of such events.
use Rattle.std.specs.Prelude.{ℕ, Bool, true, false, ◌&&◌, List, [], ◌∷◌, ◌≡◌, eqb}
use Rattle.std.proofs.Math.Path.{refl, ap, ap₂}
use Rattle.std.proofs.Common.{sym, ◌∙◌}
use Rattle.base.specs.Pick.{pick}
use Rattle.base.specs.PickLaws.{pick_true, pick_false, pick_either, pick_cases, neither, never}
use Rattle.base.specs.Bits.{bit}
use Rattle.base.proofs.BitLaws.{bit_cut}
use Rattle.base.specs.Refusals.{number_above_number, not_served_number, first_of, refusal_by, joined}
use Rattle.base.specs.declared.Answer.{Answer}
use Rattle.base.specs.declared.Answer.TheVariants.{Byte, Done, Refused}
use Rattle.receiver.specs.declared.Receiver.{Receiver}
use Rattle.receiver.specs.Receiver.{waited}
use Rattle.transmitter.specs.Transmitter.{shifted}
use Rattle.registers.specs.declared.SeatEvent.{SeatEvent}
use Rattle.registers.specs.declared.SeatEvent.TheVariants.{Read, Write, Arrival, Levels, Time}
use Rattle.registers.specs.declared.Register.{Register}
use Rattle.registers.specs.declared.Register.TheVariants.{RbrThr, Ier, IirFcr, Lcr, Mcr, Lsr, Msr, Scratch, Dll, Dlm}
use Rattle.registers.specs.Registers.{plain_register, register_at, mcr_kept, kept}
use Rattle.registers.specs.Modem.{changes_after, msr_of}
use Rattle.registers.specs.Loopback.{looped}
use Rattle.registers.proofs.LoopbackLaws.{inputs_plain, unchanged}
use Rattle.registers.specs.Refusals.{register_above, grounds, refusal}
use Rattle.channel.specs.declared.Channel.{Channel}
use Rattle.channel.specs.declared.Stepped.{Stepped}
use Rattle.channel.specs.Parts.{with_settings, with_receiver, with_modem, fifo, in_loopback, divisor_shown}
use Rattle.channel.specs.Status.{msr, inputs}
use Rattle.channel.specs.Effects.{answer_at, iir_read, lsr_read, msr_read, after_read, noticed, mcr_written, after_write, receives, heard_outside, after_arrival, after_levels, heard_back, after_time, time_answer}
use Rattle.channel.specs.Steps.{effect, stepped}
use Rattle.channel.specs.Sound.{sound_channel}
use Rattle.channel_laws.specs.SoundLaws.{parts}
use Rattle.channel_laws.specs.SoundStepLaws.{step_sound}
use Rattle.channel_laws.specs.BackLaws.{ordinal, settings_after}
use Rattle.channel_laws.specs.Sends.{after_events, answers_to}
use Rattle.channel_laws.specs.Unlooped.{asks_loop, grounds_then, answer_then, written_then, effect_then, stepped_then, after_then, answers_then, some_asks}

-- what holds of every register but the MCR, and of the MCR where bit 4 is clear, holds of the one that a write reaches which asks for no loopback
by_register : (P : Register → Type 0) (n byte : ℕ) → (eqb n 4 && bit 4 byte) ≡ false → ((r : Register) → eqb (ordinal r) 4 ≡ false → P r)
    → (bit 4 byte ≡ false → P Mcr) → (shown : Bool) → P (register_at shown n)
unfolding register_at plain_register
by_register P n byte none other mcr shown =
    let plain : P (plain_register n)
    = pick_either P (eqb n 0) _ _ (other RbrThr refl)
    (pick_either P (eqb n 1) _ _ (other Ier refl)
    (pick_either P (eqb n 2) _ _ (other IirFcr refl)
    (pick_either P (eqb n 3) _ _ (other Lcr refl)
    (pick_cases P (eqb n 4) _ _ (λ four. mcr (ap (λ (b : Bool). b && bit 4 byte) (sym four) ∙ none))
    (λ past. pick_either P (eqb n 5) _ _ (other Lsr refl) (pick_either P (eqb n 6) _ _ (other Msr refl) (other Scratch refl))))))) in
    pick_either P shown _ _ (pick_either P (eqb n 0) _ _ (other Dll refl) (pick_either P (eqb n 1) _ _ (other Dlm refl) plain)) plain

module _ (c : Channel) (outside : in_loopback c ≡ false) where
  -- ---- what is answered, and what is left

  seen : inputs c ≡ c.modem.levels
  seen = inputs_plain c.settings.mcr c.modem.levels outside

  read_then : (r : Register) → answer_at c r ≡ answer_then c r
  unfolding answer_at answer_then msr
  read_then RbrThr = refl
  read_then Ier = refl
  read_then IirFcr = refl
  read_then Lcr = refl
  read_then Mcr = refl
  read_then Lsr = refl
  read_then Msr = ap (λ (n : ℕ). Byte (msr_of c.modem.changes n)) seen
  read_then Scratch = refl
  read_then Dll = refl
  read_then Dlm = refl

  arrival_then : (marks byte : ℕ) → effect c (Arrival marks byte) ≡ effect_then c (Arrival marks byte)
  unfolding effect effect_then after_arrival heard_outside receives
  arrival_then marks byte = ap {B = Stepped} (λ (r : Receiver). record { channel = with_receiver c r; answer = Done }) (pick_false _ _ _ outside)

  levels_then : (levels : ℕ) → effect c (Levels levels) ≡ effect_then c (Levels levels)
  unfolding effect effect_then after_levels noticed
  levels_then levels =
      ap₂ {C = Stepped}
      (λ (before after : ℕ). record { channel = with_modem c (record { levels = levels; changes = changes_after c.modem.changes before after }); answer = Done })
      seen (inputs_plain c.settings.mcr levels outside)

  time_then : effect c Time ≡ effect_then c Time
  unfolding effect effect_then after_time heard_back time_answer
  time_then =
      ap₂ {C = Stepped}
      (λ (r : Receiver) (a : Answer). record {
        channel = record { settings = c.settings; receiver = waited (fifo c) r; transmitter = shifted c.transmitter; modem = c.modem };
        answer = a;
      })
      (pick_false _ _ _ (ap (λ (b : Bool). b && c.transmitter.busy) outside)) (pick_false _ _ _ outside)

  module _ (sound : sound_channel c ≡ true) where
    -- where bit 4 of the byte is clear the inputs stay those of outside, and so no change bit comes
    mcr_then : (byte : ℕ) → bit 4 byte ≡ false → after_write c Mcr byte ≡ written_then c Mcr byte
    unfolding after_write written_then mcr_written noticed
    mcr_then byte clear =
        ap (λ (n : ℕ). with_modem (with_settings c (kept c.settings Mcr byte)) (record { levels = c.modem.levels; changes = n }))
        (ap₂ (changes_after c.modem.changes) seen (inputs_plain (mcr_kept byte) c.modem.levels (bit_cut 4 5 byte ∙ clear))
        ∙ unchanged c.modem.changes c.modem.levels (parts c sound).changes)

    other_then : (byte : ℕ) (r : Register) → eqb (ordinal r) 4 ≡ false → after_write c r byte ≡ written_then c r byte
    unfolding written_then
    other_then byte RbrThr e = refl
    other_then byte Ier e = refl
    other_then byte IirFcr e = refl
    other_then byte Lcr e = refl
    other_then byte Mcr e = absurd (never (sym e))
    other_then byte Lsr e = refl
    other_then byte Msr e = refl
    other_then byte Scratch e = refl
    other_then byte Dll e = refl
    other_then byte Dlm e = refl

    write_then : (n byte : ℕ) → asks_loop (Write n byte) ≡ false → effect c (Write n byte) ≡ effect_then c (Write n byte)
    unfolding effect effect_then asks_loop
    write_then n byte none =
        ap {B = Stepped} (λ (d : Channel). record { channel = d; answer = Done })
        (by_register (λ (r : Register). after_write c r byte ≡ written_then c r byte) n byte none (other_then byte) (mcr_then byte) (divisor_shown c))

    effect_then_lem : (e : SeatEvent) → asks_loop e ≡ false → effect c e ≡ effect_then c e
    unfolding effect effect_then
    effect_then_lem (Read n) none =
        let r = register_at (divisor_shown c) n in
        ap {B = Stepped} (λ (a : Answer). record { channel = after_read c r; answer = a }) (read_then r)
    effect_then_lem (Write n byte) none = write_then n byte none
    effect_then_lem (Arrival marks byte) none = arrival_then marks byte
    effect_then_lem (Levels levels) none = levels_then levels
    effect_then_lem Time none = time_then

    -- ---- what is refused

    refusal_then : (e : SeatEvent) → asks_loop e ≡ false → refusal c.settings e ≡ refusal_by (grounds_then c.settings e)
    unfolding refusal grounds grounds_then refusal_by first_of pick
    refusal_then (Read n) none = refl
    refusal_then (Write n byte) none =
        ap (λ (b : Bool). refusal_by (record { number = number_above_number; holds = register_above n } ∷ record { number = not_served_number; holds = b } ∷ [])) (sym none)
    refusal_then (Arrival marks byte) none = refl
    refusal_then (Levels levels) none = refl
    refusal_then Time none = refl

    -- so the step is that of then, answer and channel, refused or not
    pub step_then : (e : SeatEvent) → asks_loop e ≡ false → stepped c e ≡ stepped_then c e
    unfolding stepped stepped_then
    step_then e none =
        ap₂ (λ (number : ℕ) (did : Stepped). joined number did (λ (k : ℕ). record { channel = c; answer = Refused k })) (refusal_then e none) (effect_then_lem e none)

  -- ---- and the channel stays outside

  abbrev Outside : Channel → Type 0
  Outside d = in_loopback d ≡ false

  write_outside : (n byte : ℕ) → asks_loop (Write n byte) ≡ false → Outside (effect c (Write n byte)).channel
  unfolding effect asks_loop
  write_outside n byte none =
      by_register (λ (r : Register). Outside (after_write c r byte)) n byte none
      (λ r other. ap (λ s. looped s.mcr) (settings_after c r byte) ∙ ap looped (pick_false _ _ _ other) ∙ outside)
      (λ clear. ap (λ s. looped s.mcr) (settings_after c Mcr byte) ∙ ap looped (pick_true _ _ _ refl) ∙ bit_cut 4 5 byte ∙ clear) (divisor_shown c)

  -- a read leaves the settings
  read_keeps : (r : Register) → (after_read c r).settings ≡ c.settings
  unfolding after_read iir_read lsr_read msr_read
  read_keeps RbrThr = refl
  read_keeps Ier = refl
  read_keeps IirFcr = refl
  read_keeps Lcr = refl
  read_keeps Mcr = refl
  read_keeps Lsr = refl
  read_keeps Msr = refl
  read_keeps Scratch = refl
  read_keeps Dll = refl
  read_keeps Dlm = refl

  effect_outside : (e : SeatEvent) → asks_loop e ≡ false → Outside (effect c e).channel
  unfolding effect after_arrival after_levels after_time
  effect_outside (Read n) none = ap (λ s. looped s.mcr) (read_keeps (register_at (divisor_shown c) n)) ∙ outside
  effect_outside (Write n byte) none = write_outside n byte none
  effect_outside (Arrival marks byte) none = outside
  effect_outside (Levels levels) none = outside
  effect_outside Time none = outside

  step_outside : (e : SeatEvent) → asks_loop e ≡ false → Outside (stepped c e).channel
  unfolding stepped
  step_outside e none =
      pick_either (λ (s : Stepped). Outside s.channel) (eqb (refusal c.settings e) 0) _ _ (effect_outside e none) outside

-- ---- any run

-- of a sound channel outside loopback, over events none of which asks for it: answers and channel are those of then
pub record AsThen (c : Channel) (es : List SeatEvent) : Type 0 where
  pub answers : answers_to c es ≡ answers_then c es
  pub channel : after_events c es ≡ after_then c es

pub as_then : (es : List SeatEvent) (c : Channel) → sound_channel c ≡ true → in_loopback c ≡ false → some_asks es ≡ false → AsThen c es
unfolding after_events answers_to after_then answers_then some_asks
as_then [] c sound outside none = record { answers = refl; channel = refl }
as_then (e ∷ es) c sound outside none =
    let both = neither (asks_loop e) (some_asks es) none in
    let one = step_then c outside sound e both.0 in
    let rest = as_then es (stepped c e).channel (step_sound c e sound) (step_outside c outside e both.0) both.1 in
    record {
      answers =
          ap₂ (λ (a : Answer) (l : List Answer). a ∷ l) (ap (λ (s : Stepped). s.answer) one)
          (rest.answers ∙ ap (λ (s : Stepped). answers_then s.channel es) one);
      channel = rest.channel ∙ ap (λ (s : Stepped). after_then s.channel es) one;
    }
