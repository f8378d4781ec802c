-- Character times outside loopback, over whatever is on its way out: the shift register's byte, then what waits, in order, then nothing more.
use Rattle.std.specs.Prelude.{ℕ, zero, suc, ◌+◌, ◌≤◌, true, false, ◌≡◌, refl, length}
use mathlib.Core.List.{List, [], ◌∷◌, ◌++◌, map}
use Rattle.std.proofs.Math.Path.{ap, ap₂}
use Rattle.std.proofs.Common.{sym, ◌∙◌, ⊎_elim, arith}
use Rattle.std.proofs.Math.ListN.{replicate}
use Rattle.base.specs.Pick.{pick}
use Rattle.base.specs.PickLaws.{pick_true, pick_false, either_way}
use Rattle.base.specs.Bits.{bit}
use Rattle.base.specs.declared.Answer.{Answer}
use Rattle.base.specs.declared.Answer.TheVariants.{Done, Sent, Idle}
use Rattle.queue.specs.declared.Character.{Character}
use Rattle.queue.specs.Joining.{places, joined}
use Rattle.queue.proofs.JoiningLaws.{joined_fits}
use Rattle.queue.proofs.QueueLaws.{holding}
use Rattle.transmitter.specs.declared.Transmitter.{Transmitter}
use Rattle.transmitter.specs.Transmitter.{written, shifted}
use Rattle.transmitter.specs.Sending.{to_send}
use Rattle.transmitter.proofs.CallLaws.{shift_none, shift_last, shift_more}
use Rattle.registers.specs.Words.{cut}
use Rattle.channel.specs.declared.Channel.{Channel}
use Rattle.channel.specs.declared.Stepped.{Stepped}
use Rattle.registers.specs.declared.SeatEvent.TheVariants.{Write, Time}
use Rattle.channel.specs.Parts.{fifo, in_loopback}
use Rattle.channel.specs.Steps.{stepped}
use Rattle.registers.proofs.RefusalLaws.{undivided}
use Rattle.channel_laws.specs.WireLaws.{sent, idle}
use Rattle.channel_laws.specs.SideLaws.{thr_writes, time_shifts}
use Rattle.channel_laws.specs.SendingLaws.{passed}
use Rattle.channel_laws.specs.QueuedLaws.{thr_joins}
use Rattle.channel_laws.specs.Shown.{after}
use Rattle.channel_laws.specs.Sends.{answers_to}

-- "a character in the shift register leaves, cut to the word length"
abbrev pub on_the_wire : Channel → Answer
on_the_wire c = pick c.transmitter.busy (Sent (cut c.settings.lcr c.transmitter.shift)) Idle

leaves : (c : Channel) → undivided c.settings ≡ false → in_loopback c ≡ false → bit 6 c.settings.lcr ≡ false → (stepped c Time).answer ≡ on_the_wire c
leaves c going outside clear =
    ⊎_elim
    (λ (full : c.transmitter.busy ≡ true). sent c going outside clear full ∙ sym (pick_true _ _ _ full))
    (λ (empty : c.transmitter.busy ≡ false). idle c going outside clear empty ∙ sym (pick_false _ _ _ empty))
    (either_way c.transmitter.busy)

-- "the oldest queued moves in"
pub moved_in : (t : Transmitter) (ch : Character) (l : List Character) → t.queue ≡ holding (ch ∷ l) → length (ch ∷ l) ≤ 16
    → ((shifted t).queue ≡ holding l) × ((shifted t).busy ≡ true) × ((shifted t).shift ≡ ch.«data»)
moved_in t ch [] held fits =
    let one = shift_last t ch held in
    (ap (λ (u : Transmitter). u.queue) one, ap (λ (u : Transmitter). u.busy) one, ap (λ (u : Transmitter). u.shift) one)
moved_in t ch (next ∷ l) held fits =
    let more = shift_more t ch next l held (omega arith) in
    (ap (λ (u : Transmitter). u.queue) more, ap (λ (u : Transmitter). u.busy) more, ap (λ (u : Transmitter). u.shift) more)

rests : (k : ℕ) (c : Channel) → c.transmitter.queue ≡ holding [] → c.transmitter.busy ≡ false → undivided c.settings ≡ false
    → in_loopback c ≡ false → bit 6 c.settings.lcr ≡ false → answers_to c (replicate k Time) ≡ replicate k Idle
unfolding answers_to
rests zero c none empty going outside clear = refl
rests (suc k) c none empty going outside clear =
    let still = shift_none c.transmitter none in
    ap₂ (λ (a : Answer) (rest : List Answer). a ∷ rest) (idle c going outside clear empty)
    (ap (λ (d : Channel). answers_to d (replicate k Time)) (time_shifts c going)
    ∙ rests k (passed c) (ap (λ (u : Transmitter). u.queue) still) (ap (λ (u : Transmitter). u.busy) still) going outside clear)

abbrev sent_of : ℕ → Character → Answer
sent_of lcr ch = Sent (cut lcr ch.«data»)

-- one character time for the shift register, one for each that waits, and k more
pub drains : (l : List Character) (c : Channel) → c.transmitter.queue ≡ holding l → length l ≤ 16 → undivided c.settings ≡ false
    → in_loopback c ≡ false → bit 6 c.settings.lcr ≡ false → (k : ℕ)
    → answers_to c (replicate (suc (length l) + k) Time)
    ≡ on_the_wire c ∷ (map (λ (ch : Character). Sent (cut c.settings.lcr ch.«data»)) l ++ replicate k Idle)
unfolding answers_to
drains [] c held fits going outside clear k =
    let still = shift_none c.transmitter held in
    let times : 1 + k ≡ suc k = omega arith in
    ap (λ (n : ℕ). answers_to c (replicate n Time)) times
    ∙ ap₂ (λ (a : Answer) (rest : List Answer). a ∷ rest) (leaves c going outside clear)
    (ap (λ (d : Channel). answers_to d (replicate k Time)) (time_shifts c going)
    ∙ rests k (passed c) (ap (λ (u : Transmitter). u.queue) still) (ap (λ (u : Transmitter). u.busy) still) going outside clear)
drains (ch ∷ l) c held fits going outside clear k =
    let moves = moved_in c.transmitter ch l held fits in
    let lcr = c.settings.lcr in
    let times : suc (suc (length l)) + k ≡ suc (suc (length l) + k) = omega arith in
    let next : on_the_wire (passed c) ≡ sent_of lcr ch = pick_true _ _ _ moves.1 ∙ ap (λ (byte : ℕ). Sent (cut lcr byte)) moves.2 in
    ap (λ (n : ℕ). answers_to c (replicate n Time)) times
    ∙ ap₂ (λ (a : Answer) (rest : List Answer). a ∷ rest) (leaves c going outside clear)
    (ap (λ (d : Channel). answers_to d (replicate (suc (length l) + k) Time)) (time_shifts c going)
    ∙ drains l (passed c) moves.0 (omega arith) going outside clear k
    ∙ ap (λ (a : Answer). a ∷ (map (sent_of lcr) l ++ replicate k Idle)) next)

-- a THR write, and then the character times: the shift register is as it was, and the byte leaves behind the others, or not at all where FIFO mode
-- drops it, or instead of the old one
module _ (c : Channel) (byte : ℕ) (plain : bit 7 c.settings.lcr ≡ false) (l : List Character) (held : c.transmitter.queue ≡ holding l)
    (within : length l ≤ places (fifo c)) where
  abbrev waiting : List Character
  waiting = joined (fifo c) l (to_send byte)

  pub thr_leaves : undivided c.settings ≡ false → in_loopback c ≡ false → bit 6 c.settings.lcr ≡ false → (k : ℕ)
      → answers_to c (Write 0 byte ∷ replicate (suc (length waiting) + k) Time)
      ≡ Done ∷ on_the_wire c ∷ (map (λ (ch : Character). Sent (cut c.settings.lcr ch.«data»)) waiting ++ replicate k Idle)
  unfolding answers_to written
  thr_leaves going outside clear k =
      let did = thr_writes c plain byte in
      let later = after c (Write 0 byte) in
      ap₂ (λ (a : Answer) (rest : List Answer). a ∷ rest) (ap (λ (s : Stepped). s.answer) did)
      (drains waiting later (thr_joins c byte plain l held within) (joined_fits (fifo c) l (to_send byte) within)
      (ap (λ (s : Stepped). undivided s.channel.settings) did ∙ going) (ap (λ (s : Stepped). in_loopback s.channel) did ∙ outside)
      (ap (λ (s : Stepped). bit 6 s.channel.settings.lcr) did ∙ clear) k
      ∙ ap (λ (s : Stepped). on_the_wire s.channel ∷ (map (sent_of s.channel.settings.lcr) waiting ++ replicate k Idle)) did)
