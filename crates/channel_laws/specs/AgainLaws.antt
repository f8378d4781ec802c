-- A second read of LSR, MSR or IIR: what the first cleared is gone, and all else shows as before.
use Prim.Native.Nat.{ℕ, zero, suc, ◌%◌, ◌<◌}
use Rattle.std.specs.Prelude.{Bool, true, false, not, ◌&&◌, List, ◌∷◌, ◌≡◌, refl, eqb}
use Rattle.std.proofs.Math.Bool.{and-true, and-false}
use Rattle.std.proofs.Math.Path.{ap}
use Rattle.std.proofs.Common.{sym, ◌∙◌, ⊎_elim, arith}
use Rattle.base.specs.Pick.{pick}
use Rattle.base.specs.PickLaws.{pick_true, pick_false, either_way}
use Rattle.base.specs.Bits.{bit}
use Rattle.base.specs.Answers.{value_of}
use Rattle.queue.specs.declared.Character.{Character}
use Rattle.queue.specs.Queue.{plain, any_marked}
use Rattle.queue.proofs.QueueLaws.{holding}
use Rattle.receiver.specs.Receiver.{lsr_seen}
use Rattle.receiver.specs.CallLaws.{lsr_seen_fifo, lsr_seen_16450}
use Rattle.channel.specs.declared.Channel.{Channel}
use Rattle.channel.specs.declared.Stepped.{Stepped}
use Rattle.registers.specs.declared.SeatEvent.TheVariants.{Read}
use Rattle.channel.specs.Parts.{fifo}
use Rattle.channel.specs.Status.{lsr, msr, cause, iir}
use Rattle.channel.specs.Effects.{iir_read, lsr_read, msr_read}
use Rattle.channel_laws.specs.CauseLaws.{moved}
use Rattle.channel_laws.specs.IirLaws.{flagged, iir_clears, iir_again}
use Rattle.channel.specs.StatusLaws.{iir_cause}
use Rattle.channel_laws.specs.ReadLaws.{read_iir, read_lsr_lem, read_msr, msr_again_changes, msr_again_inputs}
use Rattle.channel_laws.specs.ReadLaws.{lsr_again_overrun, lsr_again_marks, lsr_again_data, lsr_again_sending, lsr_again_marked}
use Rattle.channel_laws.specs.Shown.{shown, after}

-- ---- what reads of 2, 5 and 6 show, in either state of LCR bit 7

pub shows_iir : (c : Channel) → shown c 2 ≡ iir c
unfolding value_of
shows_iir c = ap (λ (s : Stepped). value_of s.answer) (read_iir c)

pub shows_lsr : (c : Channel) → shown c 5 ≡ lsr c
unfolding value_of
shows_lsr c = ap (λ (s : Stepped). value_of s.answer) (read_lsr_lem c)

pub shows_msr : (c : Channel) → shown c 6 ≡ msr c
unfolding value_of
shows_msr c = ap (λ (s : Stepped). value_of s.answer) (read_msr c)

-- a bit of a second read beside the first
gone : (first : Bool) {second : Bool} → second ≡ false → second ≡ (first && false)
gone first clear = clear ∙ sym (and-false first)

stays : {first second : Bool} → second ≡ first → second ≡ (first && true)
stays {first} same = same ∙ sym (and-true first)

module _ (c : Channel) where
  again_lsr : shown (after c (Read 5)) 5 ≡ lsr (lsr_read c)
  again_lsr = shows_lsr (after c (Read 5)) ∙ ap (λ (s : Stepped). lsr s.channel) (read_lsr_lem c)

  again_msr : shown (after c (Read 6)) 6 ≡ msr (msr_read c)
  again_msr = shows_msr (after c (Read 6)) ∙ ap (λ (s : Stepped). msr s.channel) (read_msr c)

  again_iir : shown (after c (Read 2)) 2 ≡ iir (iir_read c)
  again_iir = shows_iir (after c (Read 2)) ∙ ap (λ (s : Stepped). iir s.channel) (read_iir c)

  lsr_bits : (k : ℕ) → k < 7 → bit k (lsr (lsr_read c)) ≡ (bit k (lsr c) && bit k 0x61)
  unfolding bit
  lsr_bits zero less = stays (lsr_again_data c)
  lsr_bits (suc zero) less = gone (bit 1 (lsr c)) (lsr_again_overrun c)
  lsr_bits (suc (suc zero)) less = gone (bit 2 (lsr c)) (lsr_again_marks c 0 (omega arith))
  lsr_bits (suc (suc (suc zero))) less = gone (bit 3 (lsr c)) (lsr_again_marks c 1 (omega arith))
  lsr_bits (suc (suc (suc (suc zero)))) less = gone (bit 4 (lsr c)) (lsr_again_marks c 2 (omega arith))
  lsr_bits (suc (suc (suc (suc (suc zero))))) less = stays (lsr_again_sending c).0
  lsr_bits (suc (suc (suc (suc (suc (suc zero)))))) less = stays (lsr_again_sending c).1
  lsr_bits (suc (suc (suc (suc (suc (suc (suc k))))))) less = absurd (omega arith)

  -- "A read clears overrun, and the marks it showed, after answering.": bits 1 to 4 are 0 then, and bits 0, 5 and 6 as before
  pub lsr_twice : (k : ℕ) → k < 7 → bit k (shown (after c (Read 5)) 5) ≡ (bit k (shown c 5) && bit k 0x61)
  lsr_twice k less = ap (bit k) again_lsr ∙ lsr_bits k less ∙ ap (λ (n : ℕ). bit k n && bit k 0x61) (sym (shows_lsr c))

  msr_bits_lem : (k : ℕ) → k < 8 → bit k (msr (msr_read c)) ≡ (bit k (msr c) && bit k 0xF0)
  unfolding bit
  msr_bits_lem zero less = gone (bit 0 (msr c)) (msr_again_changes c 0 (omega arith))
  msr_bits_lem (suc zero) less = gone (bit 1 (msr c)) (msr_again_changes c 1 (omega arith))
  msr_bits_lem (suc (suc zero)) less = gone (bit 2 (msr c)) (msr_again_changes c 2 (omega arith))
  msr_bits_lem (suc (suc (suc zero))) less = gone (bit 3 (msr c)) (msr_again_changes c 3 (omega arith))
  msr_bits_lem (suc (suc (suc (suc zero)))) less = stays (msr_again_inputs c 0 (omega arith))
  msr_bits_lem (suc (suc (suc (suc (suc zero))))) less = stays (msr_again_inputs c 1 (omega arith))
  msr_bits_lem (suc (suc (suc (suc (suc (suc zero)))))) less = stays (msr_again_inputs c 2 (omega arith))
  msr_bits_lem (suc (suc (suc (suc (suc (suc (suc zero))))))) less = stays (msr_again_inputs c 3 (omega arith))
  msr_bits_lem (suc (suc (suc (suc (suc (suc (suc (suc k)))))))) less = absurd (omega arith)

  -- "A read clears bits 0-3 after answering.", and bits 4 to 7 are as before
  pub msr_twice : (k : ℕ) → k < 8 → bit k (shown (after c (Read 6)) 6) ≡ (bit k (shown c 6) && bit k 0xF0)
  msr_twice k less = ap (bit k) again_msr ∙ msr_bits_lem k less ∙ ap (λ (n : ℕ). bit k n && bit k 0xF0) (sym (shows_msr c))

  -- LSR bit 7 tells of the characters behind the oldest then, in FIFO mode
  pub lsr_twice_marked : fifo c ≡ true → (ch : Character) (l : List Character) → c.receiver.queue ≡ holding (ch ∷ l)
      → bit 7 (shown (after c (Read 5)) 5) ≡ any_marked l
  lsr_twice_marked mode ch l held = ap (bit 7) again_lsr ∙ lsr_again_marked c mode ch l held

  -- what an LSR read leaves of the receive side in FIFO mode: the oldest without its marks, the others as they were, and overrun cleared
  pub lsr_leaves_fifo : fifo c ≡ true → (ch : Character) (l : List Character) → c.receiver.queue ≡ holding (ch ∷ l)
      → (after c (Read 5)).receiver
      ≡ record {
        queue = holding (plain ch ∷ l);
        overrun = false;
        kept = c.receiver.kept;
        timeout = c.receiver.timeout;
        last = c.receiver.last;
      }
  unfolding lsr_read
  lsr_leaves_fifo mode ch l held =
      ap (λ (s : Stepped). s.channel.receiver) (read_lsr_lem c) ∙ ap (λ (m : Bool). lsr_seen m c.receiver) mode
      ∙ (lsr_seen_fifo c.receiver ch l held).1

  -- and in 16450 mode: the queue with all its marks, and neither overrun nor kept marks
  pub lsr_leaves_16450 : fifo c ≡ false
      → (after c (Read 5)).receiver
      ≡ record { queue = c.receiver.queue; overrun = false; kept = 0; timeout = c.receiver.timeout; last = c.receiver.last }
  unfolding lsr_read
  lsr_leaves_16450 mode =
      ap (λ (s : Stepped). s.channel.receiver) (read_lsr_lem c) ∙ ap (λ (m : Bool). lsr_seen m c.receiver) mode ∙ (lsr_seen_16450 c.receiver).1

  -- ---- IIR

  -- the code that a read names
  abbrev pub named : ℕ
  named = shown c 2 % 16

  pub named_is : named ≡ cause c
  named_is = ap (λ (n : ℕ). n % 16) (shows_iir c) ∙ iir_cause c

  -- "A read that named 02 clears that flag.": it is set after exactly if it was set and not named, and nothing else of the channel changes
  pub iir_read_clears : after c (Read 2) ≡ flagged c (c.transmitter.flag && not (eqb named 0x02))
  iir_read_clears =
      ap (λ (s : Stepped). s.channel) (read_iir c) ∙ iir_clears c
      ∙ ap (λ (n : ℕ). flagged c (c.transmitter.flag && not (eqb n 0x02))) (sym named_is)

by_modem : (moves : Bool) → eqb (pick moves 0x00 0x01) 0x02 ≡ false
unfolding pick
by_modem true = refl
by_modem false = refl

never_02 : (n : ℕ) (moves : Bool) → eqb (pick (eqb n 0x02) (pick moves 0x00 0x01) n) 0x02 ≡ false
never_02 n moves =
    ⊎_elim
    (λ (two : eqb n 0x02 ≡ true). ap (λ (m : ℕ). eqb m 0x02) (pick_true _ _ _ two) ∙ by_modem moves)
    (λ (other : eqb n 0x02 ≡ false). ap (λ (m : ℕ). eqb m 0x02) (pick_false _ _ _ other) ∙ other)
    (either_way (eqb n 0x02))

-- so a second read right after never names 02; it names what the first did, or after 02 what stands behind it: the modem's cause, or none
pub iir_twice : (c : Channel)
    → (shown (after c (Read 2)) 2 % 16 ≡ pick (eqb (named c) 0x02) (pick (moved c) 0x00 0x01) (named c))
    × (eqb (shown (after c (Read 2)) 2 % 16) 0x02 ≡ false)
iir_twice c =
    let second : shown (after c (Read 2)) 2 % 16 ≡ pick (eqb (named c) 0x02) (pick (moved c) 0x00 0x01) (named c)
    = ap (λ (n : ℕ). n % 16) (again_iir c) ∙ iir_cause (iir_read c) ∙ iir_again c
    ∙ ap (λ (n : ℕ). pick (eqb n 0x02) (pick (moved c) 0x00 0x01) n) (sym (named_is c)) in
    (second, ap (λ (n : ℕ). eqb n 0x02) second ∙ never_02 (named c) (moved c))
