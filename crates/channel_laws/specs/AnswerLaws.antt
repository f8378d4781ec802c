-- What an accepted event is answered with, by its kind.
use Rattle.std.specs.Prelude.{ℕ, Bool, true, false, ◌≡◌, refl, ◌⊎◌, eqb}
use Rattle.std.proofs.Common.{ap₂, subst, sym, inl, inr, ne_eqb}
use Rattle.base.specs.Pick.{pick}
use Rattle.base.specs.PickLaws.{pick_false, pick_either, pick_cases}
use Rattle.base.specs.Bits.{bit}
use Rattle.base.specs.declared.Answer.{Answer}
use Rattle.base.specs.declared.Answer.TheVariants.{Byte, Letter, Done, Sent, Idle, Break}
use Rattle.channel.specs.declared.Channel.{Channel}
use Rattle.registers.specs.declared.SeatEvent.{SeatEvent}
use Rattle.registers.specs.declared.SeatEvent.TheVariants.{Read, Write, Arrival, Levels, Time}
use Rattle.registers.specs.declared.Register.{Register}
use Rattle.registers.specs.declared.Register.TheVariants.{Ier, IirFcr, Lcr, Mcr, Lsr, Msr, Scratch}
use Rattle.registers.specs.Registers.{plain_register, register_at}
use Rattle.receiver.specs.Receiver.{got}
use Rattle.channel.specs.Parts.{divisor_shown, in_loopback}
use Rattle.channel.specs.Effects.{answer_at, time_answer}
use Rattle.channel.specs.Steps.{effect, stepped}
use Rattle.registers.proofs.RefusalLaws.{accepts}
use Rattle.channel_laws.specs.RefusalLaws.{done}

-- what a read of this register is answered with: "the byte", and no more where it is DLL or any register but 0. Ticket 6: "The RBR answer gains these
-- figures": RBR is register 0 with LCR bit 7 clear
pub record ReadAnswer (c : Channel) (n : ℕ) (a : Answer) : Type 0 where
  pub letter : n ≡ 0 → divisor_shown c ≡ false → a ≡ Letter (got c.receiver).byte (got c.receiver).figures
  pub by_number : (n ≡ 0 → ⊥) → (byte : ℕ) × (a ≡ Byte byte)
  pub divisor : divisor_shown c ≡ true → (byte : ℕ) × (a ≡ Byte byte)

-- "read register": "the byte"; "write register", "character arrives", "modem inputs": "000"; "one character time passes": "the byte sent; 100 idle;
-- 200 break"
abbrev pub Answers : Channel → SeatEvent → Answer → Type 0
Answers c (Read n) a = ReadAnswer c n a
Answers c (Write n byte) a = a ≡ Done
Answers c (Arrival marks byte) a = a ≡ Done
Answers c (Levels levels) a = a ≡ Done
Answers c Time a = ((byte : ℕ) × (a ≡ Sent byte)) ⊎ ((a ≡ Idle) ⊎ (a ≡ Break))

time_answers : (c : Channel) → Answers c Time (time_answer c)
unfolding time_answer
time_answers c =
    let OnWire : Answer → Type 0 = λ a. Answers c Time a in
    pick_either OnWire (in_loopback c) _ _ (inr (inl refl))
    (pick_either OnWire (bit 6 c.settings.lcr) _ _ (inr (inr refl)) (pick_either OnWire c.transmitter.busy _ _ (inl (_, refl)) (inr (inl refl))))

-- "the byte" alone
abbrev ByteAt : Channel → Register → Type 0
ByteAt c r = (byte : ℕ) × (answer_at c r ≡ Byte byte)

-- the registers that a number above 0 is, in either state of LCR bit 7
above_0 : (c : Channel) (n : ℕ)
    → ByteAt c
    (pick (eqb n 1) Ier (pick (eqb n 2) IirFcr (pick (eqb n 3) Lcr (pick (eqb n 4) Mcr (pick (eqb n 5) Lsr (pick (eqb n 6) Msr Scratch))))))
unfolding answer_at
above_0 c n =
    pick_either (ByteAt c) (eqb n 1) _ _ (_, refl)
    (pick_either (ByteAt c) (eqb n 2) _ _ (_, refl)
    (pick_either (ByteAt c) (eqb n 3) _ _ (_, refl)
    (pick_either (ByteAt c) (eqb n 4) _ _ (_, refl)
    (pick_either (ByteAt c) (eqb n 5) _ _ (_, refl) (pick_either (ByteAt c) (eqb n 6) _ _ (_, refl) (_, refl))))))

plain_read : (c : Channel) (n : ℕ) → eqb n 0 ≡ false → ByteAt c (plain_register n)
unfolding plain_register
plain_read c n other = subst (ByteAt c) (sym (pick_false _ _ _ other)) (above_0 c n)

divisor_read : (c : Channel) (n : ℕ) → ByteAt c (register_at true n)
unfolding register_at pick answer_at
divisor_read c n =
    pick_cases (ByteAt c) (eqb n 0) _ _ (λ zero. (_, refl)) (λ other. pick_either (ByteAt c) (eqb n 1) _ _ (_, refl) (plain_read c n other))

read_by_number : (c : Channel) (shown : Bool) (n : ℕ) → eqb n 0 ≡ false → ByteAt c (register_at shown n)
unfolding register_at pick
read_by_number c true n other = divisor_read c n
read_by_number c false n other = plain_read c n other

read_answers : (c : Channel) (n : ℕ) → ReadAnswer c n (answer_at c (register_at (divisor_shown c) n))
unfolding register_at plain_register pick answer_at
read_answers c n =
    record {
      letter = λ zero clear. ap₂ (λ (shown : Bool) (k : ℕ). answer_at c (register_at shown k)) clear zero;
      by_number = λ other. read_by_number c (divisor_shown c) n (ne_eqb n 0 other);
      divisor = λ set. subst (λ (shown : Bool). ByteAt c (register_at shown n)) (sym set) (divisor_read c n);
    }

effect_answers : (c : Channel) (e : SeatEvent) → Answers c e (effect c e).answer
unfolding effect
effect_answers c (Read n) = read_answers c n
effect_answers c (Write n byte) = refl
effect_answers c (Arrival marks byte) = refl
effect_answers c (Levels levels) = refl
effect_answers c Time = time_answers c

pub answers : (c : Channel) (e : SeatEvent) → accepts c.settings e ≡ true → Answers c e (stepped c e).answer
answers c e served = subst (λ s. Answers c e s.answer) (sym (done c e served)) (effect_answers c e)
