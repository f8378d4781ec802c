-- The cause that is named: each code exactly if its own row is enabled and stands and no earlier row does; and the line.
use Rattle.std.specs.Prelude.{ℕ, ◌<◌, Bool, true, false, not, ◌&&◌, ◌||◌, ◌≡◌, refl, leb, eqb}
use Rattle.std.proofs.Math.Bool.{or-false}
use Rattle.std.proofs.Common.{ap, sym, subst, ◌∙◌, eq-eqb, eqb-true, leb-false}
use Rattle.std.proofs.lemmas.Bool.{not-true}
use Rattle.base.specs.Pick.{pick}
use Rattle.base.specs.PickLaws.{both_hold, never}
use Rattle.base.specs.Bits.{bit}
use Rattle.receiver.specs.Receiver.{none_queued, data_stands, timeout_stands}
use Rattle.channel.specs.declared.Channel.{Channel}
use Rattle.channel.specs.Parts.{fifo}
use Rattle.registers.specs.Words.{trigger}
use Rattle.registers.specs.Modem.{some_change}
use Rattle.status.specs.Status.{line_trouble, causes, first_cause, cause_of, line_of}
use Rattle.channel.specs.Status.{lsr, msr, cause, line}

-- ---- the five rows, each enabled and standing

-- "06 any of LSR 1-4 (IER bit 2)"
abbrev pub troubled : Channel → Bool
troubled c = bit 2 c.settings.ier && (bit 1 (lsr c) || bit 2 (lsr c) || bit 3 (lsr c) || bit 4 (lsr c))

-- the trigger is reached in FIFO mode
abbrev pub reached : Channel → Bool
reached c = leb (trigger c.settings.fcr) c.receiver.queue.count

-- "04 data, which is a character in 16450 mode and the trigger reached in FIFO mode (bit 0)"
abbrev pub ready : Channel → Bool
ready c = bit 0 c.settings.ier && ((fifo c && reached c) || (not (fifo c) && not (eqb c.receiver.queue.count 0)))

-- "0C time-out count 4 (bit 0)"
abbrev pub late : Channel → Bool
late c = bit 0 c.settings.ier && eqb c.receiver.timeout 4

-- "02 holding-empty flag (bit 1)"
abbrev pub drained : Channel → Bool
drained c = bit 1 c.settings.ier && c.transmitter.flag

-- "00 any of MSR 0-3 (bit 3)"
abbrev pub moved : Channel → Bool
moved c = bit 3 c.settings.ier && (bit 0 (msr c) || bit 1 (msr c) || bit 2 (msr c) || bit 3 (msr c))

-- ---- which of them is named

-- a code is that of the first of five tests that holds, and 01 is that of none
pub record Named (a b c d e : Bool) (code : ℕ) : Type 0 where
  pub trouble : eqb code 0x06 ≡ a
  pub character : eqb code 0x04 ≡ (not a && b)
  pub time_out : eqb code 0x0C ≡ (not a && not b && c)
  pub holding : eqb code 0x02 ≡ (not a && not b && not c && d)
  pub modem : eqb code 0x00 ≡ (not a && not b && not c && not d && e)
  pub none : eqb code 0x01 ≡ (not a && not b && not c && not d && not e)

first : (a b c d e : Bool) → Named a b c d e (pick a 0x06 (pick b 0x04 (pick c 0x0C (pick d 0x02 (pick e 0x00 0x01)))))
unfolding pick
first true b c d e = record { trouble = refl; character = refl; time_out = refl; holding = refl; modem = refl; none = refl }
first false true c d e = record { trouble = refl; character = refl; time_out = refl; holding = refl; modem = refl; none = refl }
first false false true d e = record { trouble = refl; character = refl; time_out = refl; holding = refl; modem = refl; none = refl }
first false false false true e = record { trouble = refl; character = refl; time_out = refl; holding = refl; modem = refl; none = refl }
first false false false false true = record { trouble = refl; character = refl; time_out = refl; holding = refl; modem = refl; none = refl }
first false false false false false = record { trouble = refl; character = refl; time_out = refl; holding = refl; modem = refl; none = refl }

by_mode : (mode a b : Bool) → pick mode a b ≡ ((mode && a) || (not mode && b))
unfolding pick
by_mode true true b = refl
by_mode true false b = refl
by_mode false a b = refl

-- "IIR names the first enabled cause", "else 01"
pub cause_named : (c : Channel) → Named (troubled c) (ready c) (late c) (drained c) (moved c) (cause c)
unfolding lsr cause cause_of causes first_cause line_trouble some_change data_stands none_queued timeout_stands
cause_named c =
    subst (λ (r : Bool). Named (troubled c) (bit 0 c.settings.ier && r) (late c) (drained c) (moved c) (cause c))
    (by_mode (fifo c) (reached c) (not (eqb c.receiver.queue.count 0)))
    (first (troubled c) _ (late c) (drained c) (moved c))

-- ---- what follows

unreached : (enabled mode r x : Bool) → enabled ≡ true → mode ≡ true → not (enabled && ((mode && r) || (not mode && x))) ≡ true → r ≡ false
unreached true true r x on in-fifo e = not-true r (rw (or-false r) at e)
unreached true false r x on in-fifo e = absurd (never in-fifo)
unreached false mode r x on in-fifo e = absurd (never on)

module _ (c : Channel) (named : cause c ≡ 0x0C) where
  is_late : (not (troubled c) && not (ready c) && late c) ≡ true
  is_late = sym (cause_named c).time_out ∙ eq-eqb (cause c) 0x0C named

  -- a time-out is named only at a time-out count of 4
  pub late_at_four : c.receiver.timeout ≡ 4
  late_at_four =
      let two = both_hold (not (troubled c) && not (ready c)) (late c) is_late in
      eqb-true c.receiver.timeout 4 (both_hold (bit 0 c.settings.ier) (eqb c.receiver.timeout 4) two.1).1

  -- and never with the trigger reached
  pub late_below_trigger : fifo c ≡ true → c.receiver.queue.count < trigger c.settings.fcr
  late_below_trigger mode =
      let two = both_hold (not (troubled c) && not (ready c)) (late c) is_late in
      let asked = (both_hold (bit 0 c.settings.ier) (eqb c.receiver.timeout 4) two.1).0 in
      leb-false (trigger c.settings.fcr) c.receiver.queue.count
      (unreached _ _ (reached c) _ asked mode (both_hold (not (troubled c)) (not (ready c)) two.0).1)

-- not none is some
some : (a b c d e : Bool) → not (not a && not b && not c && not d && not e) ≡ (a || b || c || d || e)
some true b c d e = refl
some false true c d e = refl
some false false true d e = refl
some false false false true e = refl
some false false false false true = refl
some false false false false false = refl

-- "The seat's line is high exactly if a cause is named and MCR bit 3 is set."
pub line_high : (c : Channel) → line c ≡ ((troubled c || ready c || late c || drained c || moved c) && bit 3 c.settings.mcr)
unfolding line line_of cause
line_high c =
    ap (λ (b : Bool). not b && bit 3 c.settings.mcr) (cause_named c).none
    ∙ ap (λ (b : Bool). b && bit 3 c.settings.mcr) (some (troubled c) (ready c) (late c) (drained c) (moved c))
