-- What a read of LSR or MSR clears: what a second read shows, and that nothing else changed.
use Rattle.std.specs.Prelude.{ℕ, ◌+◌, ◌<◌, true, false, not, ◌&&◌, List, [], ◌∷◌, ◌≡◌, ltb, eqb, get_or, set}
use Rattle.std.proofs.Math.Path.{refl, ap, sym}
use Rattle.std.proofs.Common.{◌∙◌, pow_pos}
use Rattle.std.proofs.Math.Logic.{⊎_elim}
use Rattle.base.specs.Pick.{pick}
use Rattle.base.specs.PickLaws.{pick_true, pick_false, pick_same, pick_through, either_way}
use Rattle.base.specs.Bits.{bit}
use Rattle.base.proofs.BitLaws.{bit_past}
use Rattle.base.specs.declared.Answer.TheVariants.{Byte}
use Rattle.queue.specs.declared.Character.{Character}
use Rattle.queue.specs.declared.Queue.{Queue}
use Rattle.queue.specs.Queue.{no_character, oldest, plain, unmarked, any_marked, marked}
use Rattle.queue.proofs.QueueLaws.{holding, unmark_oldest, marked_is}
use Rattle.receiver.specs.Receiver.{lsr_seen}
use Rattle.channel.specs.declared.Channel.{Channel}
use Rattle.registers.specs.declared.Register.{Register}
use Rattle.registers.specs.declared.Register.TheVariants.{IirFcr, Lsr, Msr}
use Rattle.registers.specs.declared.SeatEvent.TheVariants.{Read}
use Rattle.channel.specs.Parts.{divisor_shown, fifo}
use Rattle.registers.specs.Registers.{plain_register, register_at}
use Rattle.channel.specs.Status.{lsr, msr, iir}
use Rattle.channel.specs.Effects.{iir_read, lsr_read, msr_read, answer_at, after_read}
use Rattle.channel.specs.Steps.{effect, stepped}
use Rattle.channel.specs.StatusLaws.{lsr_data, lsr_overrun, lsr_kept, lsr_oldest, lsr_empty, lsr_idle, lsr_marked, msr_changes, msr_inputs}
use Rattle.channel_laws.specs.RefusalLaws.{done}

module _ (c : Channel) where
  -- a register below 8 is read as LCR bit 7 has it
  pub read_at : (n : ℕ) (r : Register) → ltb n 8 ≡ true → register_at (divisor_shown c) n ≡ r
      → stepped c (Read n) ≡ record { channel = after_read c r; answer = answer_at c r }
  unfolding effect
  read_at n r small at =
      done c (Read n) small ∙ ap (λ (q : Register). record { channel = after_read c q; answer = answer_at c q }) at

  -- registers 2, 5 and 6 are IIR, LSR and MSR in either state of LCR bit 7
  pub read_iir : stepped c (Read 2) ≡ record { channel = iir_read c; answer = Byte (iir c) }
  unfolding register_at plain_register pick after_read answer_at
  read_iir = read_at 2 IirFcr refl (pick_same (divisor_shown c) IirFcr)

  pub read_lsr_lem : stepped c (Read 5) ≡ record { channel = lsr_read c; answer = Byte (lsr c) }
  unfolding register_at plain_register pick after_read answer_at
  read_lsr_lem = read_at 5 Lsr refl (pick_same (divisor_shown c) Lsr)

  pub read_msr : stepped c (Read 6) ≡ record { channel = msr_read c; answer = Byte (msr c) }
  unfolding register_at plain_register pick after_read answer_at
  read_msr = read_at 6 Msr refl (pick_same (divisor_shown c) Msr)

-- ---- LSR

-- the oldest character has no mark once its marks are cleared
first_plain : (slots : List Character) → (get_or (set slots 0 (plain (get_or slots 0 no_character))) 0 no_character).marks ≡ 0
first_plain [] = refl
first_plain (ch ∷ l) = refl

unmarked_first : (q : Queue) → (oldest (unmarked q)).marks ≡ 0
unfolding oldest unmarked
unmarked_first q =
    ⊎_elim
    (λ (e : eqb q.count 0 ≡ true).
    ap (λ (p : Queue). (oldest p).marks) (pick_true _ _ _ e) ∙ ap (λ (ch : Character). ch.marks) (pick_true _ _ _ e))
    (λ (e : eqb q.count 0 ≡ false).
    ap (λ (p : Queue). (oldest p).marks) (pick_false _ _ _ e) ∙ ap (λ (ch : Character). ch.marks) (pick_false _ _ _ e) ∙ first_plain q.slots)
    (either_way (eqb q.count 0))

unmarked_count : (q : Queue) → (unmarked q).count ≡ q.count
unfolding unmarked
unmarked_count q = pick_through (λ (p : Queue). p.count) (eqb q.count 0) _ _ ∙ pick_same (eqb q.count 0) q.count

pub no_bit : (k : ℕ) → bit k 0 ≡ false
no_bit k = bit_past k 0 (pow_pos k)

module _ (c : Channel) where
  -- overrun is cleared
  pub lsr_again_overrun : bit 1 (lsr (lsr_read c)) ≡ false
  unfolding lsr_read lsr_seen
  lsr_again_overrun = lsr_overrun (lsr_read c)

  -- and so are the marks that it showed: the kept ones in 16450 mode, the oldest character's in FIFO mode
  pub lsr_again_marks : (k : ℕ) → k < 3 → bit (2 + k) (lsr (lsr_read c)) ≡ false
  unfolding lsr_read lsr_seen
  lsr_again_marks k less =
      ⊎_elim
      (λ (mode : fifo c ≡ true).
      lsr_oldest (lsr_read c) mode k less ∙ ap (λ (q : Queue). bit k (oldest q).marks) (pick_true _ _ _ mode)
      ∙ ap (bit k) (unmarked_first c.receiver.queue) ∙ no_bit k)
      (λ (mode : fifo c ≡ false). lsr_kept (lsr_read c) mode k less ∙ ap (bit k) (pick_false _ _ _ mode) ∙ no_bit k)
      (either_way (fifo c))

  -- in FIFO mode bit 7 then tells of the characters behind the oldest
  pub lsr_again_marked : fifo c ≡ true → (ch : Character) (l : List Character) → c.receiver.queue ≡ holding (ch ∷ l)
      → bit 7 (lsr (lsr_read c)) ≡ any_marked l
  unfolding lsr_read lsr_seen any_marked
  lsr_again_marked mode ch l held =
      lsr_marked (lsr_read c)
      ∙ (λ i. mode i && marked (pick_true (fifo c) (unmarked c.receiver.queue) c.receiver.queue mode i))
      ∙ ap (λ (q : Queue). marked (unmarked q)) held ∙ ap marked (unmark_oldest ch l) ∙ marked_is (plain ch ∷ l)

  same_count : (lsr_read c).receiver.queue.count ≡ c.receiver.queue.count
  unfolding lsr_read lsr_seen
  same_count =
      pick_through (λ (q : Queue). q.count) (fifo c) _ _ ∙ (λ i. pick (fifo c) (unmarked_count c.receiver.queue i) c.receiver.queue.count)
      ∙ pick_same (fifo c) c.receiver.queue.count

  -- the queue, the transmit queue and the shift register show as before
  pub lsr_again_data : bit 0 (lsr (lsr_read c)) ≡ bit 0 (lsr c)
  lsr_again_data = lsr_data (lsr_read c) ∙ ap (λ (n : ℕ). not (eqb n 0)) same_count ∙ sym (lsr_data c)

  pub lsr_again_sending : (bit 5 (lsr (lsr_read c)) ≡ bit 5 (lsr c)) × (bit 6 (lsr (lsr_read c)) ≡ bit 6 (lsr c))
  unfolding lsr_read
  lsr_again_sending = (lsr_empty (lsr_read c) ∙ sym (lsr_empty c), lsr_idle (lsr_read c) ∙ sym (lsr_idle c))

  -- the count of the queue, the time-out count and the last byte read are kept
  pub lsr_leaves : ((lsr_read c).receiver.queue.count ≡ c.receiver.queue.count) × ((lsr_read c).receiver.timeout ≡ c.receiver.timeout)
      × ((lsr_read c).receiver.last ≡ c.receiver.last)
  unfolding lsr_read lsr_seen
  lsr_leaves = (same_count, refl, refl)

  -- ---- MSR

  -- the changes are cleared
  pub msr_again_changes : (k : ℕ) → k < 4 → bit k (msr (msr_read c)) ≡ false
  unfolding msr_read
  msr_again_changes k less = msr_changes (msr_read c) k less ∙ no_bit k

  -- the inputs stay
  pub msr_again_inputs : (k : ℕ) → k < 4 → bit (4 + k) (msr (msr_read c)) ≡ bit (4 + k) (msr c)
  unfolding msr_read
  msr_again_inputs k less = msr_inputs (msr_read c) k less ∙ sym (msr_inputs c k less)
