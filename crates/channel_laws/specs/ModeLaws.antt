-- What a write to FCR or IER makes of the two sides: the mode, the trigger, what is emptied, and the holding-empty flag.
use Prim.Native.Nat.{ℕ, zero, suc, ◌+◌, ◌*◌, ◌/◌, ◌%◌, ◌<◌}
use Rattle.std.specs.Prelude.{Bool, not, ◌&&◌, ◌||◌, List, [], ◌∷◌, ◌≡◌, refl, eqb, get_or}
use Rattle.std.proofs.Math.Bool.{true, false, xor, and-true, and-false, and_self_left}
use Rattle.std.proofs.Math.Path.{ap, sym}
use Rattle.std.proofs.Common.{◌∙◌, arith, pow_pos}
use Rattle.base.specs.Pick.{pick}
use Rattle.base.specs.PickLaws.{pick_false}
use Rattle.base.specs.Bits.{bit, digit}
use Rattle.base.proofs.BitLaws.{bit_bits, bit_past, digit_bit}
use Rattle.queue.specs.Queue.{empty_queue}
use Rattle.receiver.specs.Receiver.{fcr_heard}
use Rattle.receiver.specs.CallLaws as heard
use Rattle.transmitter.specs.Transmitter.{none_waiting, fcr_sent}
use Rattle.transmitter.specs.RegisterLaws as sent
use Rattle.channel.specs.declared.Channel.{Channel}
use Rattle.channel.specs.Parts.{fifo}
use Rattle.registers.specs.Words.{trigger}
use Rattle.registers.specs.Registers.{fcr_kept}
use Rattle.channel.specs.Effects.{ier_written, mode_changed, fcr_receiver, fcr_transmitter, fcr_written}
use Rattle.registers.proofs.ModemLaws.{differ_xor}

-- ---- what the FCR keeps

where_on : (b : Bool) (n k : ℕ) → bit k (pick b n 0) ≡ (b && bit k n)
unfolding pick
where_on true n k = refl
where_on false n k = bit_past k 0 (pow_pos k)

-- bits 0, 3, 6 and 7 of the byte where its bit 0 is set, else nothing
module _ (byte : ℕ) where
  with_on : {x y : Bool} → x ≡ y → (bit 0 byte && x) ≡ (bit 0 byte && y)
  with_on e = ap (λ (b : Bool). bit 0 byte && b) e

  stored : (k : ℕ) → bit k (fcr_kept byte) ≡ (bit 0 byte && get_or (true ∷ false ∷ false ∷ bit 3 byte ∷ false ∷ false ∷ bit 6 byte ∷ bit 7 byte ∷ []) k false)
  unfolding fcr_kept
  stored k = where_on (bit 0 byte) _ k ∙ with_on (bit_bits k _)

  pub fcr_bit : (k : ℕ) → k < 8 → bit k (fcr_kept byte) ≡ (bit 0 byte && (bit k byte && bit k 0xC9))
  unfolding bit
  fcr_bit zero less = stored 0 ∙ sym (and_self_left (bit 0 byte) true)
  fcr_bit (suc zero) less = stored 1 ∙ with_on (sym (and-false (bit 1 byte)))
  fcr_bit (suc (suc zero)) less = stored 2 ∙ with_on (sym (and-false (bit 2 byte)))
  fcr_bit (suc (suc (suc zero))) less = stored 3 ∙ with_on (sym (and-true (bit 3 byte)))
  fcr_bit (suc (suc (suc (suc zero)))) less = stored 4 ∙ with_on (sym (and-false (bit 4 byte)))
  fcr_bit (suc (suc (suc (suc (suc zero))))) less = stored 5 ∙ with_on (sym (and-false (bit 5 byte)))
  fcr_bit (suc (suc (suc (suc (suc (suc zero)))))) less = stored 6 ∙ with_on (sym (and-true (bit 6 byte)))
  fcr_bit (suc (suc (suc (suc (suc (suc (suc zero))))))) less = stored 7 ∙ with_on (sym (and-true (bit 7 byte)))
  fcr_bit (suc (suc (suc (suc (suc (suc (suc (suc k)))))))) less = absurd (omega arith)

-- "Bit 0 clear: 16450 mode, queues of 1, all FCR bits 0."
pub fcr_off : (byte : ℕ) → bit 0 byte ≡ false → fcr_kept byte ≡ 0
unfolding fcr_kept
fcr_off byte off = pick_false _ _ _ off

-- the four triggers, as bits 7-6 count them
abbrev triggers : List ℕ
triggers = 1 ∷ 4 ∷ 8 ∷ 14 ∷ []

by_two : (high low : Bool) → pick high (pick low 14 8) (pick low 4 1) ≡ get_or triggers (digit low + 2 * digit high) 0
unfolding pick digit
by_two true true = refl
by_two true false = refl
by_two false true = refl
by_two false false = refl

chosen : (n : ℕ) → trigger n ≡ get_or triggers (n / 64 % 4) 0
unfolding trigger
chosen n =
    let chosen : digit (bit 6 n) + 2 * digit (bit 7 n) ≡ n / 64 % 4 = omega (arith, digit_bit 6 n, digit_bit 7 n) in
    by_two (bit 7 n) (bit 6 n) ∙ ap (λ (i : ℕ). get_or triggers i 0) chosen

-- "bits 7-6 choose trigger 1, 4, 8 or 14"
pub trigger_chosen : (byte : ℕ) → bit 0 byte ≡ true → trigger (fcr_kept byte) ≡ get_or triggers (byte / 64 % 4) 0
unfolding trigger bit
trigger_chosen byte on =
    let high : bit 7 (fcr_kept byte) ≡ bit 7 byte = fcr_bit byte 7 (omega arith) ∙ ap (λ (b : Bool). b && (bit 7 byte && true)) on ∙ and-true (bit 7 byte) in
    let low : bit 6 (fcr_kept byte) ≡ bit 6 byte = fcr_bit byte 6 (omega arith) ∙ ap (λ (b : Bool). b && (bit 6 byte && true)) on ∙ and-true (bit 6 byte) in
    (λ i. pick (high i) (pick (low i) 14 8) (pick (low i) 4 1)) ∙ chosen byte

-- ---- what a write to it empties

unlike_itself : (b : Bool) → xor b b ≡ false
unfolding xor
unlike_itself true = refl
unlike_itself false = refl

module _ (c : Channel) (byte : ℕ) where
  -- the mode after it is bit 0 of the byte
  pub mode_after : fifo (fcr_written c byte) ≡ bit 0 byte
  unfolding fcr_written bit
  mode_after = fcr_bit byte 0 (omega arith) ∙ and_self_left (bit 0 byte) true ∙ and-true (bit 0 byte)

  by_xor : mode_changed c byte ≡ xor (fifo c) (bit 0 byte)
  unfolding mode_changed
  by_xor = differ_xor (fifo c) (bit 0 byte)

  -- the transmit queue is emptied by a changed bit 0, and by bit 2 with bit 0; the shift register stays; the flag is set exactly if it was or
  -- the emptied queue held something
  abbrev empties_sent : Bool
  empties_sent = xor (fifo c) (bit 0 byte) || (bit 0 byte && bit 2 byte)

  pub fcr_sent_lem : (fcr_written c byte).transmitter
      ≡ record {
        queue = pick empties_sent empty_queue c.transmitter.queue;
        busy = c.transmitter.busy;
        shift = c.transmitter.shift;
        flag = c.transmitter.flag || (empties_sent && not (eqb c.transmitter.queue.count 0));
      }
  unfolding fcr_written fcr_transmitter none_waiting
  fcr_sent_lem =
      ap (λ (m : Bool). fcr_sent (m || (bit 0 byte && bit 2 byte)) c.transmitter) by_xor
      ∙ sent.fcr_empties empties_sent c.transmitter

  -- the receive queue is emptied by a changed bit 0, and by bit 1 with bit 0, and the time-out count with it; the kept marks by a changed bit
  -- alone; overrun and the last byte read stay
  abbrev empties_heard : Bool
  empties_heard = xor (fifo c) (bit 0 byte) || (bit 0 byte && bit 1 byte)

  pub fcr_heard_lem : (fcr_written c byte).receiver
      ≡ record {
        queue = pick empties_heard empty_queue c.receiver.queue;
        overrun = c.receiver.overrun;
        kept = pick (xor (fifo c) (bit 0 byte)) 0 c.receiver.kept;
        timeout = pick empties_heard 0 c.receiver.timeout;
        last = c.receiver.last;
      }
  unfolding fcr_written fcr_receiver
  fcr_heard_lem =
      ap (λ (m : Bool). fcr_heard m (bit 0 byte && bit 1 byte) c.receiver) by_xor
      ∙ heard.fcr_empties (xor (fifo c) (bit 0 byte)) (bit 0 byte && bit 1 byte) c.receiver

  -- in the mode that stands, with neither queue asked for, both sides stay: also bits 1 and 2 without bit 0 ask for none
  pub fcr_leaves : fifo c ≡ bit 0 byte → (bit 0 byte && bit 1 byte) ≡ false → (bit 0 byte && bit 2 byte) ≡ false
      → ((fcr_written c byte).receiver ≡ c.receiver) × ((fcr_written c byte).transmitter ≡ c.transmitter)
  unfolding fcr_written fcr_receiver fcr_transmitter
  fcr_leaves same one two =
      let stays : mode_changed c byte ≡ false = by_xor ∙ ap (λ (m : Bool). xor m (bit 0 byte)) same ∙ unlike_itself (bit 0 byte) in
      (pick_false _ _ _ stays ∙ pick_false _ _ _ one, pick_false _ _ _ (ap (λ (m : Bool). m || (bit 0 byte && bit 2 byte)) stays ∙ two))

  -- ---- IER

  -- a write to it touches nothing of the send side but the flag, which is set exactly if it was, or bit 1 rose with the transmit queue empty
  pub ier_sent_lem : (ier_written c byte).transmitter
      ≡ record {
        queue = c.transmitter.queue;
        busy = c.transmitter.busy;
        shift = c.transmitter.shift;
        flag = c.transmitter.flag || (not (bit 1 c.settings.ier) && bit 1 byte && eqb c.transmitter.queue.count 0);
      }
  unfolding ier_written none_waiting
  ier_sent_lem = sent.ier_sets_flag (not (bit 1 c.settings.ier) && bit 1 byte) c.transmitter
