-- Sending over a channel: after one idle character time what was written to the THR leaves in that order, each byte once, cut to the word length.
use Rattle.std.specs.Prelude.{ℕ, zero, suc, ◌+◌, ◌≤◌, true, false, List, [], ◌∷◌, ◌++◌, map, ◌≡◌, refl, leb, length, replicate}
use Rattle.std.proofs.lemmas.Simd.{map-map}
use Rattle.std.proofs.lemmas.List.{map-append}
use Rattle.std.proofs.Common.{ap, ap₂, sym, ◌∙◌, ⊎_elim, arith}
use Rattle.base.specs.Pick.{pick}
use Rattle.base.specs.PickLaws.{pick_true, pick_false, either_way}
use Rattle.base.specs.Bits.{bit, digit, bits}
use Rattle.base.specs.declared.Answer.{Answer}
use Rattle.base.specs.declared.Answer.TheVariants.{Byte, Letter, Done, Sent, Idle, Break, Vector, Spurious, Place, Divisor, Refused}
use Rattle.queue.specs.Queue.{capacity}
use Rattle.registers.specs.Words.{cut}
use Rattle.registers.specs.Loopback.{looped}
use Rattle.registers.specs.declared.Settings.{Settings}
use Rattle.registers.specs.Registers.{fcr_kept}
use Rattle.transmitter.specs.declared.Transmitter.{Transmitter}
use Rattle.transmitter.specs.Transmitter.{none_waiting, all_sent, written, shifted}
use Rattle.transmitter.specs.Sending.{written_all, leaving, after_times}
use Rattle.transmitter.specs.Sending as side
use Rattle.transmitter.specs.SoundLaws as still
use Rattle.receiver.proofs.SoundLaws as heard
use Rattle.transmitter.proofs.SendingLaws.{sends_in_order, idle_at_last, flag_at_last}
use Rattle.receiver.specs.Receiver.{waited}
use Rattle.channel.specs.declared.Channel.{Channel}
use Rattle.channel.specs.declared.Stepped.{Stepped}
use Rattle.registers.specs.declared.SeatEvent.{SeatEvent}
use Rattle.registers.specs.declared.SeatEvent.TheVariants.{Write, Time}
use Rattle.channel.specs.Parts.{power_up, with_settings, with_transmitter, divisor_shown, fifo, in_loopback}
use Rattle.channel.specs.Effects.{heard_back}
use Rattle.channel.specs.Sound.{sound_channel}
use Rattle.channel.specs.Steps.{stepped}
use Rattle.registers.proofs.RefusalLaws.{undivided}
use Rattle.channel_laws.specs.SoundLaws.{parts, whole}
use Rattle.channel_laws.specs.WireLaws.{broken, sent, idle}
use Rattle.channel_laws.specs.SideLaws.{thr_writes, time_shifts}
use Rattle.channel_laws.specs.Sends.{after_events, answers_to, sending}

-- ---- events in two parts

pub after_both : (c : Channel) (es fs : List SeatEvent) → after_events c (es ++ fs) ≡ after_events (after_events c es) fs
unfolding after_events
after_both c [] fs = refl
after_both c (e ∷ es) fs = after_both (stepped c e).channel es fs

answers_both : (c : Channel) (es fs : List SeatEvent) → answers_to c (es ++ fs) ≡ answers_to c es ++ answers_to (after_events c es) fs
unfolding after_events answers_to
answers_both c [] fs = refl
answers_both c (e ∷ es) fs = ap (λ (l : List Answer). (stepped c e).answer ∷ l) (answers_both (stepped c e).channel es fs)

-- ---- bytes written to the THR

pub after_writes : (bytes : List ℕ) (c : Channel) → divisor_shown c ≡ false
    → after_events c (map (Write 0) bytes) ≡ with_transmitter c (written_all (fifo c) c.transmitter bytes)
unfolding after_events written_all
after_writes [] c plain = refl
after_writes (byte ∷ bytes) c plain =
    ap (λ (s : Stepped). after_events s.channel (map (Write 0) bytes)) (thr_writes c plain byte)
    ∙ after_writes bytes (with_transmitter c (written (fifo c) c.transmitter byte)) plain

writes_told : (bytes : List ℕ) (c : Channel) → divisor_shown c ≡ false → answers_to c (map (Write 0) bytes) ≡ replicate (length bytes) Done
unfolding answers_to
writes_told [] c plain = refl
writes_told (byte ∷ bytes) c plain =
    ap (λ (s : Stepped). s.answer ∷ answers_to s.channel (map (Write 0) bytes)) (thr_writes c plain byte)
    ∙ ap (λ (l : List Answer). Done ∷ l) (writes_told bytes (with_transmitter c (written (fifo c) c.transmitter byte)) plain)

-- ---- character times

-- the channel after one
abbrev pub passed : Channel → Channel
passed c = record { settings = c.settings; receiver = waited (fifo c) (heard_back c); transmitter = shifted c.transmitter; modem = c.modem }

after_times_lem : (k : ℕ) (c : Channel) → undivided c.settings ≡ false → (after_events c (replicate k Time)).transmitter ≡ after_times k c.transmitter
unfolding after_events after_times
after_times_lem zero c going = refl
after_times_lem (suc k) c going =
    ap (λ (d : Channel). (after_events d (replicate k Time)).transmitter) (time_shifts c going) ∙ after_times_lem k (passed c) going

-- what a send side lets go, as the wire has it
abbrev on_wire : ℕ → Answer → Answer
on_wire lcr (Byte byte) = Byte byte
on_wire lcr (Letter byte f) = Letter byte f
on_wire lcr Done = Done
on_wire lcr (Sent byte) = Sent (cut lcr byte)
on_wire lcr Idle = Idle
on_wire lcr Break = Break
on_wire lcr (Vector v) = Vector v
on_wire lcr (Spurious v) = Spurious v
on_wire lcr (Place p) = Place p
on_wire lcr (Divisor d) = Divisor d
on_wire lcr (Refused n) = Refused n

-- one character time, outside loopback and without break
leaves : (c : Channel) → undivided c.settings ≡ false → in_loopback c ≡ false → bit 6 c.settings.lcr ≡ false
    → (stepped c Time).answer ≡ on_wire c.settings.lcr (leaving c.transmitter)
leaves c going outside clear =
    ⊎_elim
    (λ (full : c.transmitter.busy ≡ true). sent c going outside clear full ∙ sym (ap (on_wire c.settings.lcr) (pick_true _ _ _ full)))
    (λ (empty : c.transmitter.busy ≡ false). idle c going outside clear empty ∙ sym (ap (on_wire c.settings.lcr) (pick_false _ _ _ empty)))
    (either_way c.transmitter.busy)

times_told : (k : ℕ) (c : Channel) → undivided c.settings ≡ false → in_loopback c ≡ false → bit 6 c.settings.lcr ≡ false
    → answers_to c (replicate k Time) ≡ map (on_wire c.settings.lcr) (side.sending k c.transmitter)
unfolding answers_to side.sending
times_told zero c going outside clear = refl
times_told (suc k) c going outside clear =
    ap₂ (λ (a : Answer) (l : List Answer). a ∷ l) (leaves c going outside clear)
    (ap (λ (d : Channel). answers_to d (replicate k Time)) (time_shifts c going) ∙ times_told k (passed c) going outside clear)

-- where the settings alone say what a character time is answered with, whatever leaves: with break, and in loopback
pub times_alike : (a : Answer) (s : Settings) → undivided s ≡ false → ((d : Channel) → d.settings ≡ s → (stepped d Time).answer ≡ a)
    → (k : ℕ) (c : Channel) → c.settings ≡ s → answers_to c (replicate k Time) ≡ replicate k a
unfolding answers_to
times_alike a s going each zero c same = refl
times_alike a s going each (suc k) c same =
    ap₂ (λ (b : Answer) (l : List Answer). b ∷ l) (each c same)
    (ap (λ (d : Channel). answers_to d (replicate k Time)) (time_shifts c (ap undivided same ∙ going)) ∙ times_alike a s going each k (passed c) same)

-- ---- bytes written, and then character times

-- no answer of an idle line is cut
wire_idle : (lcr k : ℕ) → map (on_wire lcr) (replicate k Idle) ≡ replicate k Idle
wire_idle lcr zero = refl
wire_idle lcr (suc k) = ap (λ (l : List Answer). Idle ∷ l) (wire_idle lcr k)

module _ (c : Channel) (sound : sound_channel c ≡ true) (at_rest : all_sent c.transmitter ≡ true) (going : undivided c.settings ≡ false)
    (plain : bit 7 c.settings.lcr ≡ false) (bytes : List ℕ) (fits : length bytes ≤ capacity (fifo c)) where
  abbrev pub filled : Channel
  filled = with_transmitter c (written_all (fifo c) c.transmitter bytes)

  pub told : (k : ℕ) → answers_to c (sending bytes k) ≡ replicate (length bytes) Done ++ answers_to filled (replicate k Time)
  told k =
      answers_both c (map (Write 0) bytes) (replicate k Time)
      ∙ ap₂ (λ (l : List Answer) (d : Channel). l ++ answers_to d (replicate k Time)) (writes_told bytes c plain) (after_writes bytes c plain)

  -- outside loopback: as many bytes as the queue takes, written to a channel at rest, are each answered 000; then come one idle character time, the
  -- bytes in order, each cut to the word length, and idle for as long as one looks
  pub sends : in_loopback c ≡ false → bit 6 c.settings.lcr ≡ false → (k : ℕ)
      → answers_to c (sending bytes (suc (length bytes) + k))
      ≡ replicate (length bytes) Done ++ (Idle ∷ (map (λ (byte : ℕ). Sent (cut c.settings.lcr byte)) bytes ++ replicate k Idle))
  sends outside clear k =
      let lcr = c.settings.lcr in
      told (suc (length bytes) + k)
      ∙ ap (λ (l : List Answer). replicate (length bytes) Done ++ l)
      (times_told (suc (length bytes) + k) filled going outside clear
      ∙ ap (map (on_wire lcr)) (sends_in_order (fifo c) c.transmitter (parts c sound).transmitter at_rest bytes fits k)
      ∙ ap (λ (l : List Answer). Idle ∷ l)
      (map-append (on_wire lcr) (map Sent bytes) (replicate k Idle)
      ∙ ap₂ (λ (l r : List Answer). l ++ r) (map-map (on_wire lcr) Sent bytes) (wire_idle lcr k)))

  -- "With LCR bit 6 set the answer is 200, and all else goes on."
  pub breaks : in_loopback c ≡ false → bit 6 c.settings.lcr ≡ true → (k : ℕ)
      → answers_to c (sending bytes k) ≡ replicate (length bytes) Done ++ replicate k Break
  breaks outside set k =
      told k
      ∙ ap (λ (l : List Answer). replicate (length bytes) Done ++ l)
      (times_alike Break c.settings going
      (λ d same. broken d (ap undivided same ∙ going) (ap (λ (s : Settings). looped s.mcr) same ∙ outside) (ap (λ (s : Settings). bit 6 s.lcr) same ∙ set)) k
      filled refl)

  -- with break or without, in loopback or not: the send side after so many character times
  sides_after : (k : ℕ) → (after_events c (sending bytes k)).transmitter ≡ after_times k (written_all (fifo c) c.transmitter bytes)
  sides_after k =
      ap (λ (d : Channel). d.transmitter) (after_both c (map (Write 0) bytes) (replicate k Time))
      ∙ ap (λ (d : Channel). (after_events d (replicate k Time)).transmitter) (after_writes bytes c plain)
      ∙ after_times_lem k filled going

  -- one character time more than there are bytes: all is sent
  pub rests_again : all_sent (after_events c (sending bytes (suc (length bytes)))).transmitter ≡ true
  rests_again =
      ap all_sent (sides_after (suc (length bytes)))
      ∙ idle_at_last (fifo c) c.transmitter (parts c sound).transmitter at_rest bytes fits

-- the flag is clear until the last of one byte or more has moved in, and set from then on
pub flag_sent : (c : Channel) (byte : ℕ) (bytes : List ℕ) → sound_channel c ≡ true → all_sent c.transmitter ≡ true → undivided c.settings ≡ false
    → bit 7 c.settings.lcr ≡ false → length (byte ∷ bytes) ≤ capacity (fifo c) → (k : ℕ)
    → (after_events c (sending (byte ∷ bytes) k)).transmitter.flag ≡ leb (length (byte ∷ bytes)) k
flag_sent c byte bytes sound at_rest going plain fits k =
    ap (λ (t : Transmitter). t.flag) (sides_after c sound at_rest going plain (byte ∷ bytes) fits k)
    ∙ flag_at_last (fifo c) c.transmitter byte bytes (parts c sound).transmitter at_rest fits k

-- ---- there is such a channel

-- FIFO mode, words of five bits, divisor 12
abbrev five : Channel
five = with_settings power_up (record { ier = 0; fcr = 0x81; lcr = 0x00; mcr = 0; scratch = 0; dll = 12; dlm = 0 })

five_sound : sound_channel five ≡ true
unfolding fcr_kept bits digit bit pick
five_sound =
    whole five
    (record {
      enables = omega arith;
      modes = refl;
      outputs = omega arith;
      levels = omega arith;
      changes = omega arith;
      receiver = heard.power_up_sound (fifo five);
      transmitter = still.power_up_sound (fifo five);
    })

-- three bytes leave it by their five lower bits
pub five_bits : answers_to five (sending (0x41 ∷ 0x20 ∷ 0x1F ∷ []) 5)
    ≡ Done ∷ Done ∷ Done ∷ Idle ∷ Sent 0x01 ∷ Sent 0x00 ∷ Sent 0x1F ∷ Idle ∷ []
unfolding all_sent none_waiting capacity cut bit pick
five_bits = sends five five_sound refl refl refl (0x41 ∷ 0x20 ∷ 0x1F ∷ []) (omega arith) refl refl 1
