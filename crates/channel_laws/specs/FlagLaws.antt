-- The holding-empty flag after any event, by what LSR bit 5 shows before and after.
use Rattle.std.specs.Prelude.{ℕ, zero, suc, ◌<◌, ◌≤◌, ◌%◌, ◌^◌, Bool, ◌&&◌, ◌||◌, ◌≡◌, eqb}
use Rattle.std.proofs.Math.Bool.{true, false, not, xor}
use Rattle.std.proofs.Math.Path.{refl, sym}
use Rattle.std.proofs.Common.{ap, subst, ◌∙◌, ⊎_elim, arith, ltb-true, ltb-false, ne_eqb}
use Rattle.base.specs.Pick.{pick}
use Rattle.base.specs.PickLaws.{either_way, never}
use Rattle.base.specs.Bits.{bit}
use Rattle.base.proofs.BitLaws.{bit_cut}
use Rattle.base.specs.EveryLaws.{every_each}
use Rattle.transmitter.specs.declared.Transmitter.{Transmitter}
use Rattle.transmitter.specs.Transmitter.{written, shifted}
use Rattle.registers.specs.declared.Register.{Register}
use Rattle.registers.specs.declared.Register.TheVariants.{RbrThr, Ier, IirFcr, Lcr, Mcr, Lsr, Msr, Scratch, Dll, Dlm}
use Rattle.registers.specs.Registers.{plain_register, register_at}
use Rattle.channel.specs.declared.Channel.{Channel}
use Rattle.channel.specs.declared.Stepped.{Stepped}
use Rattle.registers.specs.declared.SeatEvent.{SeatEvent}
use Rattle.registers.specs.declared.SeatEvent.TheVariants.{Read, Write, Arrival, Levels, Time}
use Rattle.channel.specs.Parts.{divisor_shown, fifo}
use Rattle.channel.specs.Effects.{iir_read, lsr_read, msr_read, ier_written, fcr_written, mcr_written, after_read, after_write, after_arrival, after_levels, after_time}
use Rattle.channel.specs.Steps.{effect}
use Rattle.channel.specs.StatusLaws.{lsr_empty}
use Rattle.channel_laws.specs.IirLaws.{iir_clears}
use Rattle.channel_laws.specs.ModeLaws.{fcr_sent_lem, ier_sent_lem}
use Rattle.registers.proofs.RefusalLaws.{accepts}
use Rattle.channel_laws.specs.RefusalLaws.{done, refused}
use Rattle.channel_laws.specs.BackLaws.{ordinal}
use Rattle.channel_laws.specs.AgainLaws.{shows_lsr, named, named_is}
use Rattle.channel_laws.specs.EmptyingLaws.{none_left}
use Rattle.channel_laws.specs.ShiftLaws.{moved_flag}
use Rattle.channel_laws.specs.Shown.{shown, after}

-- ---- the flag, as a test of what stood and what is shown

-- f: it was set; x, y: LSR bit 5 before and after; i, j: IER bit 1 before and after; w: a THR write; r: an IIR read that named 02
abbrev stands : (f x y i j w r : Bool) → Bool
stands f x y i j w r = not w && ((f && not r) || (not x && y) || ((not i && j) && x))

lsr_5 : (d : Channel) → bit 5 (shown d 5) ≡ eqb d.transmitter.queue.count 0
lsr_5 d = ap (bit 5) (shows_lsr d) ∙ lsr_empty d

abbrev Stands : Channel → Channel → Bool → Bool → Type 0
Stands c d w r =
    d.transmitter.flag
    ≡ stands c.transmitter.flag (bit 5 (shown c 5)) (bit 5 (shown d 5)) (bit 1 c.settings.ier) (bit 1 d.settings.ier) w r

by_counts : (c d : Channel) (w r : Bool)
    → d.transmitter.flag
    ≡ stands c.transmitter.flag (eqb c.transmitter.queue.count 0) (eqb d.transmitter.queue.count 0) (bit 1 c.settings.ier)
    (bit 1 d.settings.ier) w r
    → Stands c d w r
by_counts c d w r e =
    e ∙ (λ k. stands c.transmitter.flag (sym (lsr_5 c) k) (sym (lsr_5 d) k) (bit 1 c.settings.ier) (bit 1 d.settings.ier) w r)

-- nothing of it moves
unmoved : (f x i : Bool) → f ≡ stands f x x i i false false
unmoved true x i = refl
unmoved false true true = refl
unmoved false true false = refl
unmoved false false true = refl
unmoved false false false = refl

quiet : (c d : Channel) → d.transmitter ≡ c.transmitter → d.settings.ier ≡ c.settings.ier → Stands c d false false
quiet c d same kept =
    by_counts c d false false
    (ap (λ (t : Transmitter). t.flag) same ∙ unmoved c.transmitter.flag (eqb c.transmitter.queue.count 0) (bit 1 c.settings.ier)
    ∙ (λ k. stands c.transmitter.flag (eqb c.transmitter.queue.count 0) (eqb (sym same k).queue.count 0) (bit 1 c.settings.ier)
    (bit 1 (sym kept k)) false false))

-- ---- register by register

abbrev is_thr : Register → Bool
is_thr r = eqb (ordinal r) 0

abbrev is_iir : Register → Bool
is_iir r = eqb (ordinal r) 2

-- two tests that do not differ
pub alike : (a b : Bool) → not (xor a b) ≡ true → a ≡ b
unfolding xor
alike true true e = refl
alike true false e = absurd (never e)
alike false true e = absurd (never e)
alike false false e = refl

thr_at : (s : Bool) (n : ℕ) → n < 8 → is_thr (register_at s n) ≡ (eqb n 0 && not s)
unfolding register_at plain_register pick xor
thr_at true n less = alike _ _ (every_each 8 (λ (m : ℕ). not (xor (is_thr (register_at true m)) (eqb m 0 && false))) refl n less)
thr_at false n less = alike _ _ (every_each 8 (λ (m : ℕ). not (xor (is_thr (register_at false m)) (eqb m 0 && true))) refl n less)

iir_at : (s : Bool) (n : ℕ) → n < 8 → is_iir (register_at s n) ≡ eqb n 2
unfolding register_at plain_register pick xor
iir_at true n less = alike _ _ (every_each 8 (λ (m : ℕ). not (xor (is_iir (register_at true m)) (eqb m 2))) refl n less)
iir_at false n less = alike _ _ (every_each 8 (λ (m : ℕ). not (xor (is_iir (register_at false m)) (eqb m 2))) refl n less)

-- a read clears it where it is named
named_away : (f x i r : Bool) → (f && not r) ≡ stands f x x i i false r
named_away true x i false = refl
named_away true true true true = refl
named_away true true false true = refl
named_away true false true true = refl
named_away true false false true = refl
named_away false true true r = refl
named_away false true false r = refl
named_away false false true r = refl
named_away false false false r = refl

-- IER bit 1 rises, with the queue empty
enabled_at : (f x i j : Bool) → (f || (not i && j && x)) ≡ stands f x x i j false false
enabled_at true x i j = refl
enabled_at false true true j = refl
enabled_at false true false true = refl
enabled_at false true false false = refl
enabled_at false false true j = refl
enabled_at false false false true = refl
enabled_at false false false false = refl

-- the queue is emptied
emptied_at : (f x e i : Bool) → (f || (e && not x)) ≡ stands f x (x || e) i i false false
emptied_at true x e i = refl
emptied_at false true true true = refl
emptied_at false true true false = refl
emptied_at false true false true = refl
emptied_at false true false false = refl
emptied_at false false true i = refl
emptied_at false false false true = refl
emptied_at false false false false = refl

-- a character time
passed_at : (f x y i : Bool) → (f || (not x && y)) ≡ stands f x y i i false false
passed_at true x y i = refl
passed_at false true y true = refl
passed_at false true y false = refl
passed_at false false true i = refl
passed_at false false false true = refl
passed_at false false false false = refl

module _ (c : Channel) where
  abbrev f : Bool
  f = c.transmitter.flag

  abbrev x : Bool
  x = eqb c.transmitter.queue.count 0

  abbrev i : Bool
  i = bit 1 c.settings.ier

  by_read : (r : Register) → Stands c (after_read c r) false (is_iir r && eqb (named c) 0x02)
  unfolding after_read lsr_read msr_read
  by_read RbrThr = quiet c (after_read c RbrThr) refl refl
  by_read Ier = quiet c c refl refl
  by_read IirFcr =
      by_counts c (iir_read c) false (eqb (named c) 0x02)
      (subst (λ (d : Channel). d.transmitter.flag ≡ stands f x (eqb d.transmitter.queue.count 0) i (bit 1 d.settings.ier) false (eqb (named c) 0x02))
      (sym (iir_clears c))
      (ap (λ (n : ℕ). f && not (eqb n 0x02)) (sym (named_is c)) ∙ named_away f x i (eqb (named c) 0x02)))
  by_read Lcr = quiet c c refl refl
  by_read Mcr = quiet c c refl refl
  by_read Lsr = quiet c (after_read c Lsr) refl refl
  by_read Msr = quiet c (after_read c Msr) refl refl
  by_read Scratch = quiet c c refl refl
  by_read Dll = quiet c c refl refl
  by_read Dlm = quiet c c refl refl

  by_write_lem : (r : Register) (byte : ℕ) → Stands c (after_write c r byte) (is_thr r) false
  unfolding after_write written ier_written fcr_written mcr_written
  by_write_lem RbrThr byte = by_counts c (after_write c RbrThr byte) true false refl
  by_write_lem Ier byte =
      let rise : bit 1 byte ≡ bit 1 (byte % 2 ^ 4) = sym (bit_cut 1 4 byte) in
      by_counts c (ier_written c byte) false false
      (ap (λ (t : Transmitter). t.flag) (ier_sent_lem c byte) ∙ enabled_at f x i (bit 1 byte)
      ∙ (λ k. stands f x (eqb (sym (ier_sent_lem c byte) k).queue.count 0) i (rise k) false false))
  by_write_lem IirFcr byte =
      let e = xor (fifo c) (bit 0 byte) || (bit 0 byte && bit 2 byte) in
      by_counts c (fcr_written c byte) false false
      (ap (λ (t : Transmitter). t.flag) (fcr_sent_lem c byte) ∙ emptied_at f x e i
      ∙ (λ k. stands f x (sym (none_left e c.transmitter.queue) k) i i false false)
      ∙ (λ k. stands f x (eqb (sym (fcr_sent_lem c byte) k).queue.count 0) i i false false))
  by_write_lem Lcr byte = quiet c (after_write c Lcr byte) refl refl
  by_write_lem Mcr byte = quiet c (after_write c Mcr byte) refl refl
  by_write_lem Lsr byte = quiet c c refl refl
  by_write_lem Msr byte = quiet c c refl refl
  by_write_lem Scratch byte = quiet c (after_write c Scratch byte) refl refl
  by_write_lem Dll byte = quiet c (after_write c Dll byte) refl refl
  by_write_lem Dlm byte = quiet c (after_write c Dlm byte) refl refl

  by_time : Stands c (after_time c) false false
  unfolding after_time
  by_time =
      by_counts c (after_time c) false false
      (moved_flag c.transmitter ∙ passed_at f x (eqb (shifted c.transmitter).queue.count 0) i)

-- ---- event by event

-- a THR write: register 0, with LCR bit 7 clear
abbrev pub writes_thr : Channel → SeatEvent → Bool
writes_thr c (Read n) = false
writes_thr c (Write n byte) = eqb n 0 && not (divisor_shown c)
writes_thr c (Arrival marks byte) = false
writes_thr c (Levels levels) = false
writes_thr c Time = false

-- an IIR read that names 02
abbrev pub names_flag : Channel → SeatEvent → Bool
names_flag c (Read n) = eqb n 2 && eqb (named c) 0x02
names_flag c (Write n byte) = false
names_flag c (Arrival marks byte) = false
names_flag c (Levels levels) = false
names_flag c Time = false

by_effect : (c : Channel) (e : SeatEvent) → accepts c.settings e ≡ true → Stands c (effect c e).channel (writes_thr c e) (names_flag c e)
unfolding effect after_arrival after_levels
by_effect c (Read n) served =
    subst (λ (two : Bool). Stands c (after_read c (register_at (divisor_shown c) n)) false (two && eqb (named c) 0x02))
    (iir_at (divisor_shown c) n (ltb-true n 8 served)) (by_read c (register_at (divisor_shown c) n))
by_effect c (Write n byte) served =
    subst (λ (thr : Bool). Stands c (after_write c (register_at (divisor_shown c) n) byte) thr false)
    (thr_at (divisor_shown c) n (ltb-true n 8 served)) (by_write_lem c (register_at (divisor_shown c) n) byte)
by_effect c (Arrival marks byte) served = quiet c (after_arrival c marks byte) refl refl
by_effect c (Levels levels) served = quiet c (after_levels c levels) refl refl
by_effect c Time served = by_time c

-- what is refused is neither
no_thr : (c : Channel) (e : SeatEvent) → accepts c.settings e ≡ false → writes_thr c e ≡ false
no_thr c (Read n) wrong = refl
no_thr c (Write zero byte) wrong = absurd (never (sym wrong))
no_thr c (Write (suc n) byte) wrong = ap (λ (b : Bool). b && not (divisor_shown c)) (ne_eqb (suc n) 0 (λ (e : suc n ≡ 0). omega arith))
no_thr c (Arrival marks byte) wrong = refl
no_thr c (Levels levels) wrong = refl
no_thr c Time wrong = refl

no_iir : (c : Channel) (e : SeatEvent) → accepts c.settings e ≡ false → names_flag c e ≡ false
no_iir c (Read n) wrong =
    let past : 8 ≤ n = ltb-false n 8 wrong in
    ap (λ (b : Bool). b && eqb (named c) 0x02) (ne_eqb n 2 (λ (e : n ≡ 2). omega arith))
no_iir c (Write n byte) wrong = refl
no_iir c (Arrival marks byte) wrong = refl
no_iir c (Levels levels) wrong = refl
no_iir c Time wrong = refl

-- whatever happens, refused or not: a THR write clears the flag, an IIR read that names 02 clears it, and it is set where LSR bit 5 rises (by a
-- character time or an emptying) and where IER bit 1 rises with LSR bit 5 set; else it stays
pub flag_after : (c : Channel) (e : SeatEvent)
    → (after c e).transmitter.flag
    ≡ (not (writes_thr c e)
    && ((c.transmitter.flag && not (names_flag c e))
    || (not (bit 5 (shown c 5)) && bit 5 (shown (after c e) 5))
    || ((not (bit 1 c.settings.ier) && bit 1 (after c e).settings.ier) && bit 5 (shown c 5))))
flag_after c e =
    ⊎_elim
    (λ (served : accepts c.settings e ≡ true).
    subst (λ (s : Stepped). Stands c s.channel (writes_thr c e) (names_flag c e)) (sym (done c e served)) (by_effect c e served))
    (λ (wrong : accepts c.settings e ≡ false).
    subst (λ (s : Stepped). Stands c s.channel (writes_thr c e) (names_flag c e)) (sym (refused c e wrong))
    (subst (λ (w : Bool). Stands c c w (names_flag c e)) (sym (no_thr c e wrong))
    (subst (λ (r : Bool). Stands c c false r) (sym (no_iir c e wrong)) (quiet c c refl refl))))
    (either_way (accepts c.settings e))
