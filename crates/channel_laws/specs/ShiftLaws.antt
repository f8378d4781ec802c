-- The send side after a character time and after an IER write.
use Rattle.std.specs.Prelude.{ℕ, ◌%◌, Bool, true, false, not, ◌&&◌, ◌||◌, ◌≡◌, refl, eqb}
use Rattle.std.proofs.Math.Bool.{and-false, or-true, or-false}
use Rattle.std.proofs.Common.{ap, sym, ◌∙◌, ⊎_elim}
use Rattle.base.specs.Pick.{pick}
use Rattle.base.specs.PickLaws.{pick_true, pick_false, either_way}
use Rattle.base.specs.Bits.{bit}
use Rattle.queue.specs.declared.Queue.{Queue}
use Rattle.transmitter.specs.declared.Transmitter.{Transmitter}
use Rattle.transmitter.specs.Transmitter.{none_waiting, flag_set_if, left, loaded, next, shifted}
use Rattle.registers.specs.declared.Register.TheVariants.{Ier}
use Rattle.registers.specs.Registers.{plain_register, register_at, with_ier}
use Rattle.channel.specs.declared.Channel.{Channel}
use Rattle.channel.specs.declared.Stepped.{Stepped}
use Rattle.registers.specs.declared.SeatEvent.TheVariants.{Write, Time}
use Rattle.channel.specs.Parts.{with_settings, with_transmitter}
use Rattle.channel.specs.Effects.{ier_written, after_write}
use Rattle.channel.specs.StatusLaws.{lsr_empty, lsr_idle}
use Rattle.channel_laws.specs.IirLaws.{flagged}
use Rattle.channel_laws.specs.ModeLaws.{ier_sent_lem}
use Rattle.registers.proofs.RefusalLaws.{undivided}
use Rattle.channel_laws.specs.BackLaws.{write_at}
use Rattle.channel_laws.specs.SideLaws.{time_shifts}
use Rattle.channel_laws.specs.AgainLaws.{shows_lsr}
use Rattle.channel_laws.specs.Shown.{shown, after}

-- ---- one character time over a send side

set_where : (b : Bool) (t : Transmitter) → ((flag_set_if b t).flag ≡ (t.flag || b)) × ((flag_set_if b t).queue ≡ t.queue) × ((flag_set_if b t).busy ≡ t.busy)
unfolding flag_set_if pick
set_where true t = (sym (or-true t.flag), refl, refl)
set_where false t = (sym (or-false t.flag), refl, refl)

module _ (t : Transmitter) where
  abbrev empty : Transmitter → Bool
  empty u = eqb u.queue.count 0

  none_moves : empty t ≡ true → shifted t ≡ left t
  unfolding shifted next none_waiting
  none_moves none = pick_true _ _ _ none

  one_moves : empty t ≡ false → shifted t ≡ flag_set_if (empty (loaded (left t))) (loaded (left t))
  unfolding shifted next none_waiting
  one_moves some = pick_false _ _ _ some

  -- the flag is set where the queue is empty by the move
  pub moved_flag : (shifted t).flag ≡ (t.flag || (not (empty t) && empty (shifted t)))
  moved_flag =
      ⊎_elim
      (λ (none : empty t ≡ true).
      ap (λ (u : Transmitter). u.flag) (none_moves none) ∙ sym (or-false t.flag)
      ∙ ap (λ (b : Bool). t.flag || (not b && empty (shifted t))) (sym none))
      (λ (some : empty t ≡ false).
      let m = loaded (left t) in
      let now : empty (shifted t) ≡ empty m
      = ap (λ (u : Transmitter). empty u) (one_moves some) ∙ ap (λ (q : Queue). eqb q.count 0) (set_where (empty m) m).1 in
      ap (λ (u : Transmitter). u.flag) (one_moves some) ∙ (set_where (empty m) m).0
      ∙ (λ i. t.flag || (not (sym some i) && sym now i)))
      (either_way (empty t))

  -- the shift register holds a character after it exactly if one waited
  moved_busy : (shifted t).busy ≡ not (empty t)
  moved_busy =
      ⊎_elim
      (λ (none : empty t ≡ true). ap (λ (u : Transmitter). u.busy) (none_moves none) ∙ ap not (sym none))
      (λ (some : empty t ≡ false).
      ap (λ (u : Transmitter). u.busy) (one_moves some) ∙ (set_where (empty (loaded (left t))) (loaded (left t))).2 ∙ ap not (sym some))
      (either_way (empty t))

  -- where none waited none does
  moved_empty : empty t ≡ true → empty (shifted t) ≡ true
  moved_empty none = ap (λ (u : Transmitter). empty u) (none_moves none) ∙ none

-- "a character in the shift register leaves", "the oldest queued moves in": LSR shows all sent after a character time exactly if it showed an empty
-- transmit queue before
pub time_shows : (c : Channel) → undivided c.settings ≡ false → bit 6 (shown (after c Time) 5) ≡ bit 5 (shown c 5)
time_shows c going =
    let t = c.transmitter in
    let x = eqb t.queue.count 0 in
    ap (bit 6) (shows_lsr (after c Time)) ∙ lsr_idle (after c Time)
    ∙ ap (λ (d : Channel). eqb d.transmitter.queue.count 0 && not d.transmitter.busy) (time_shifts c going)
    ∙ ap (λ (b : Bool). eqb (shifted t).queue.count 0 && not b) (moved_busy t)
    ∙ ⊎_elim
    (λ (none : x ≡ true). (λ i. moved_empty t none i && not (not (none i))) ∙ sym none)
    (λ (some : x ≡ false). ap (λ (b : Bool). eqb (shifted t).queue.count 0 && not (not b)) some ∙ and-false (eqb (shifted t).queue.count 0) ∙ sym some)
    (either_way x)
    ∙ sym (ap (bit 5) (shows_lsr c) ∙ lsr_empty c)

-- "IER write that turns bit 1 from 0 to 1 with the transmit queue empty sets the holding-empty flag.": what it writes is the IER, and of the send
-- side it moves the flag alone
pub ier_written_lem : (c : Channel) (byte : ℕ) → bit 7 c.settings.lcr ≡ false
    → after c (Write 1 byte)
    ≡ flagged (with_settings c (with_ier c.settings (byte % 16)))
    (c.transmitter.flag || ((not (bit 1 c.settings.ier) && bit 1 byte) && bit 5 (shown c 5)))
unfolding register_at plain_register pick after_write ier_written
ier_written_lem c byte clear =
    let at = ap (λ (s : Bool). register_at s 1) clear in
    let x : eqb c.transmitter.queue.count 0 ≡ bit 5 (shown c 5) = sym (ap (bit 5) (shows_lsr c) ∙ lsr_empty c) in
    ap (λ (s : Stepped). s.channel) (write_at c 1 byte Ier refl at)
    ∙ ap (with_transmitter (with_settings c (with_ier c.settings (byte % 16)))) (ier_sent_lem c byte)
    ∙ ap (λ (b : Bool). flagged (with_settings c (with_ier c.settings (byte % 16)))
    (c.transmitter.flag || ((not (bit 1 c.settings.ier) && bit 1 byte) && b))) x
