-- Every event, refused or not, leaves a sound channel sound.
use Rattle.std.specs.Prelude.{ℕ, ◌<◌, Bool, true, false, not, ◌&&◌, ◌||◌, [], ◌∷◌, ◌≡◌, refl, ltb, eqb}
use Rattle.std.proofs.Math.Bool.{xor}
use Rattle.std.proofs.Math.Path.{ap, subst}
use Rattle.std.proofs.Common.{sym, ◌∙◌, arith, eq-eqb, ltb-true}
use Rattle.std.proofs.Math.Logic.{⊎_elim}
use Rattle.base.specs.Pick.{pick}
use Rattle.base.specs.PickLaws.{pick_true, pick_false, pick_either, both_hold, either_way}
use Rattle.base.specs.Bits.{bit, bits}
use Rattle.base.proofs.BitLaws.{bit_bits}
use Rattle.queue.specs.declared.Character.{Character}
use Rattle.receiver.specs.declared.Receiver.{Receiver}
use Rattle.receiver.specs.Receiver.{none_queued, timeout_stands}
use Rattle.receiver.specs.Sound.{sound_receiver}
use Rattle.receiver.proofs.SoundLaws as heard
use Rattle.transmitter.specs.declared.Transmitter.{Transmitter}
use Rattle.transmitter.specs.Sound.{sound_transmitter}
use Rattle.transmitter.specs.SoundLaws as sending
use Rattle.channel.specs.declared.Channel.{Channel}
use Rattle.channel.specs.declared.Stepped.{Stepped}
use Rattle.registers.specs.declared.Register.{Register}
use Rattle.registers.specs.declared.Register.TheVariants.{RbrThr, Ier, IirFcr, Lcr, Mcr, Lsr, Msr, Scratch, Dll, Dlm}
use Rattle.registers.specs.declared.SeatEvent.{SeatEvent}
use Rattle.registers.specs.declared.SeatEvent.TheVariants.{Read, Write, Arrival, Levels, Time}
use Rattle.channel.specs.Parts.{divisor_shown, fifo, in_loopback}
use Rattle.registers.specs.Registers.{register_at, fcr_kept}
use Rattle.channel.specs.Status.{cause}
use Rattle.channel.specs.Effects.{iir_read, lsr_read, msr_read, after_read, ier_written, mode_changed, fcr_receiver, fcr_transmitter, fcr_written, noticed, mcr_written, after_write, receives, heard_outside, after_arrival, after_levels, leaver, heard_back, after_time}
use Rattle.channel.specs.Steps.{effect, stepped}
use Rattle.channel.specs.Sound.{sound_channel}
use Rattle.channel_laws.specs.CauseLaws.{late_at_four}
use Rattle.registers.proofs.ModemLaws.{differ_xor, changes_small}
use Rattle.channel_laws.specs.ModeLaws.{fcr_off, mode_after}
use Rattle.registers.proofs.RefusalLaws.{undivided, accepts}
use Rattle.channel_laws.specs.RefusalLaws.{done, refused}
use Rattle.channel_laws.specs.SoundLaws.{Sound, parts, whole, with_receiver_lem, with_transmitter_lem, with_modem_lem, with_settings_lem}

-- ---- reads

read_sound : (c : Channel) (r : Register) → Sound c → Sound (after_read c r)
unfolding after_read iir_read lsr_read msr_read
read_sound c RbrThr s = with_receiver_lem c _ s (heard.get_sound (fifo c) c.receiver s.receiver)
read_sound c Ier s = s
read_sound c IirFcr s =
    with_transmitter_lem c _ s
    (pick_either (λ (t : Transmitter). sound_transmitter (fifo c) t ≡ true) (eqb (cause c) 0x02) _ _
    (sending.flag_cleared_sound (fifo c) c.transmitter s.transmitter) s.transmitter)
read_sound c Lcr s = s
read_sound c Mcr s = s
read_sound c Lsr s = with_receiver_lem c _ s (heard.lsr_seen_sound (fifo c) c.receiver s.receiver)
read_sound c Msr s = with_modem_lem c _ s s.levels (omega arith)
read_sound c Scratch s = s
read_sound c Dll s = s
read_sound c Dlm s = s

-- ---- writes

-- what the FCR keeps of a byte it keeps again
none_kept : fcr_kept 0 ≡ 0
unfolding fcr_kept bit pick
none_kept = refl

some_kept : (b₃ b₆ b₇ : Bool) → let n = bits (true ∷ false ∷ false ∷ b₃ ∷ false ∷ false ∷ b₆ ∷ b₇ ∷ []) in fcr_kept n ≡ n
unfolding fcr_kept
some_kept b₃ b₆ b₇ =
    let l = true ∷ false ∷ false ∷ b₃ ∷ false ∷ false ∷ b₆ ∷ b₇ ∷ [] in
    pick_true _ _ _ (bit_bits 0 l)
    ∙ (λ i. bits (true ∷ false ∷ false ∷ bit_bits 3 l i ∷ false ∷ false ∷ bit_bits 6 l i ∷ bit_bits 7 l i ∷ []))

fcr_on : (byte : ℕ) → bit 0 byte ≡ true → fcr_kept byte ≡ bits (true ∷ false ∷ false ∷ bit 3 byte ∷ false ∷ false ∷ bit 6 byte ∷ bit 7 byte ∷ [])
unfolding fcr_kept
fcr_on byte on = pick_true _ _ _ on

kept_twice : (byte : ℕ) → fcr_kept (fcr_kept byte) ≡ fcr_kept byte
kept_twice byte =
    ⊎_elim
    (λ (on : bit 0 byte ≡ true).
    let n = fcr_on byte on in ap fcr_kept n ∙ some_kept (bit 3 byte) (bit 6 byte) (bit 7 byte) ∙ sym n)
    (λ (off : bit 0 byte ≡ false). let n = fcr_off byte off in ap fcr_kept n ∙ none_kept ∙ sym n)
    (either_way (bit 0 byte))

same_mode : (a b : Bool) → xor a b ≡ false → a ≡ b
unfolding xor
same_mode true true e = refl
same_mode true false e = e
same_mode false true e = sym e
same_mode false false e = refl

-- the two sides after an FCR write, in the mode that bit 0 of the byte gives
module _ (c : Channel) (byte : ℕ) (s : Sound c) where
  mode_stays : mode_changed c byte ≡ false → fifo c ≡ bit 0 byte
  unfolding mode_changed
  mode_stays e = same_mode (fifo c) (bit 0 byte) (sym (differ_xor (fifo c) (bit 0 byte)) ∙ e)

  fcr_receiver_lem : sound_receiver (bit 0 byte) (fcr_receiver c byte) ≡ true
  unfolding fcr_receiver
  fcr_receiver_lem =
      ⊎_elim
      (λ (m : mode_changed c byte ≡ true). ap (sound_receiver (bit 0 byte)) (pick_true _ _ _ m) ∙ heard.mode_change_sound (bit 0 byte) c.receiver)
      (λ (m : mode_changed c byte ≡ false).
      ap (sound_receiver (bit 0 byte)) (pick_false _ _ _ m)
      ∙ pick_either (λ (r : Receiver). sound_receiver (bit 0 byte) r ≡ true) (bit 0 byte && bit 1 byte) _ _
      (heard.clear_sound (fifo c) (bit 0 byte) c.receiver s.receiver)
      (subst (λ (mode : Bool). sound_receiver mode c.receiver ≡ true) (mode_stays m) s.receiver))
      (either_way (mode_changed c byte))

  fcr_transmitter_lem : sound_transmitter (bit 0 byte) (fcr_transmitter c byte) ≡ true
  unfolding fcr_transmitter
  fcr_transmitter_lem =
      let emptied-sound = sending.clear_sound (fifo c) (bit 0 byte) c.transmitter s.transmitter in
      ⊎_elim
      (λ (m : mode_changed c byte ≡ true).
      ap (sound_transmitter (bit 0 byte)) (pick_true _ _ _ (ap (λ (b : Bool). b || (bit 0 byte && bit 2 byte)) m)) ∙ emptied-sound)
      (λ (m : mode_changed c byte ≡ false).
      pick_either (λ (t : Transmitter). sound_transmitter (bit 0 byte) t ≡ true) (mode_changed c byte || (bit 0 byte && bit 2 byte)) _ _ emptied-sound
      (subst (λ (mode : Bool). sound_transmitter mode c.transmitter ≡ true) (mode_stays m) s.transmitter))
      (either_way (mode_changed c byte))

  fcr_sound : Sound (fcr_written c byte)
  unfolding fcr_written
  fcr_sound =
      record {
        enables = s.enables;
        modes = kept_twice byte;
        outputs = s.outputs;
        levels = s.levels;
        changes = s.changes;
        receiver = subst (λ (mode : Bool). sound_receiver mode (fcr_receiver c byte) ≡ true) (sym (mode_after c byte)) fcr_receiver_lem;
        transmitter = subst (λ (mode : Bool). sound_transmitter mode (fcr_transmitter c byte) ≡ true) (sym (mode_after c byte)) fcr_transmitter_lem;
      }

  ier_sound : Sound (ier_written c byte)
  unfolding ier_written
  ier_sound =
      record {
        enables = omega arith;
        modes = s.modes;
        outputs = s.outputs;
        levels = s.levels;
        changes = s.changes;
        receiver = s.receiver;
        transmitter =
            pick_either (λ (t : Transmitter). sound_transmitter (fifo c) t ≡ true) (not (bit 1 c.settings.ier) && bit 1 byte) _ _
            (sending.enable_sound (fifo c) c.transmitter s.transmitter) s.transmitter;
      }

  -- ticket 7: "change bits as for real inputs, also where a write of MCR enters or leaves": these are four bits still
  mcr_sound : Sound (mcr_written c byte)
  unfolding mcr_written noticed
  mcr_sound =
      record {
        enables = s.enables;
        modes = s.modes;
        outputs = omega arith;
        levels = s.levels;
        changes = changes_small _ _ _;
        receiver = s.receiver;
        transmitter = s.transmitter;
      }

write_sound : (c : Channel) (r : Register) (byte : ℕ) → Sound c → Sound (after_write c r byte)
unfolding after_write
write_sound c RbrThr byte s = with_transmitter_lem c _ s (sending.write_sound (fifo c) c.transmitter byte s.transmitter)
write_sound c Ier byte s = ier_sound c byte s
write_sound c IirFcr byte s = fcr_sound c byte s
write_sound c Lcr byte s = with_settings_lem c _ _ _ _ s
write_sound c Mcr byte s = mcr_sound c byte s
write_sound c Lsr byte s = s
write_sound c Msr byte s = s
write_sound c Scratch byte s = with_settings_lem c _ _ _ _ s
write_sound c Dll byte s = with_settings_lem c _ _ _ _ s
write_sound c Dlm byte s = with_settings_lem c _ _ _ _ s

-- ---- a character received, from outside or in loopback

received_sound : (c : Channel) (ch : Character) → ch.marks < 8 → Sound c → sound_receiver (fifo c) (receives c ch) ≡ true
unfolding receives
received_sound c ch few s = heard.receive_sound (fifo c) c.receiver ch s.receiver few

outside_sound : (c : Channel) (ch : Character) → ch.marks < 8 → Sound c → sound_receiver (fifo c) (heard_outside c ch) ≡ true
unfolding heard_outside
outside_sound c ch few s =
    pick_either (λ (r : Receiver). sound_receiver (fifo c) r ≡ true) (in_loopback c) _ _ s.receiver (received_sound c ch few s)

back_sound : (c : Channel) → Sound c → sound_receiver (fifo c) (heard_back c) ≡ true
unfolding heard_back
back_sound c s =
    pick_either (λ (r : Receiver). sound_receiver (fifo c) r ≡ true) (in_loopback c && c.transmitter.busy) _ _ (received_sound c (leaver c) (omega arith) s)
    s.receiver

-- ---- every event

effect_sound : (c : Channel) (e : SeatEvent) → accepts c.settings e ≡ true → Sound c → Sound (effect c e).channel
unfolding effect after_arrival after_levels noticed after_time
effect_sound c (Read n) fine s = read_sound c (register_at (divisor_shown c) n) s
effect_sound c (Write n byte) fine s = write_sound c (register_at (divisor_shown c) n) byte s
effect_sound c (Arrival marks byte) fine s =
    let all = (both_hold (not (undivided c.settings)) _ fine).1 in
    let small : marks < 8 = ltb-true _ _ (both_hold (ltb marks 8) _ all).0 in
    with_receiver_lem c _ s (outside_sound c (record { «data» = byte; marks = marks }) small s)
effect_sound c (Levels levels) fine s = with_modem_lem c _ s (ltb-true levels 16 fine) (changes_small _ _ _)
effect_sound c Time fine s =
    record {
      enables = s.enables;
      modes = s.modes;
      outputs = s.outputs;
      levels = s.levels;
      changes = s.changes;
      receiver = heard.wait_sound (fifo c) (heard_back c) (back_sound c s);
      transmitter = sending.shift_sound (fifo c) c.transmitter s.transmitter;
    }

-- an accepted event by its effect, a refused one because nothing changes
pub step_sound : (c : Channel) (e : SeatEvent) → sound_channel c ≡ true → sound_channel (stepped c e).channel ≡ true
step_sound c e sound =
    ⊎_elim
    (λ (fine : accepts c.settings e ≡ true).
    ap (λ (t : Stepped). sound_channel t.channel) (done c e fine) ∙ whole (effect c e).channel (effect_sound c e fine (parts c sound)))
    (λ (wrong : accepts c.settings e ≡ false). ap (λ (t : Stepped). sound_channel t.channel) (refused c e wrong) ∙ sound)
    (either_way (accepts c.settings e))

-- of a sound channel, 0C is named only in FIFO mode with a character queued
pub late_waits : (c : Channel) → sound_channel c ≡ true → cause c ≡ 0x0C → (fifo c ≡ true) × (none_queued c.receiver ≡ false)
unfolding timeout_stands
late_waits c sound named = heard.timeout_waits (fifo c) c.receiver (parts c sound).receiver (eq-eqb _ _ (late_at_four c named))
