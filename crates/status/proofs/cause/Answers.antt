use Prim.Native.Nat.{ℕ, ◌+◌, ◌<◌, ◌≤◌}
use mathlib.Core.Bool.{Bool, true, false, ◌&&◌}
use mathlib.Core.List.{List}
use mathlib.Core.Path.{◌≡◌, ap, sym, ◌∙◌}
use native.Mathlib.Omega.{arith}
use native.Mathlib.Numerals.{add-one}
use lib.ListN.{length, get_or, drop, drop_of_length-le}
use lib.Seq.{drop-cons}
use Rattle.base.specs.PickLaws.{pick_true, pick_false}
use Rattle.base.specs.Bits.{bit}
use Rattle.registers.specs.declared.Settings.{Settings}
use Rattle.receiver.specs.declared.Receiver.{Receiver}
use Rattle.transmitter.specs.declared.Transmitter.{Transmitter}
use Rattle.registers.specs.Words.{trigger}
use Rattle.registers.specs.Modem.{some_change}
use Rattle.receiver.specs.Receiver.{troubled, data_stands, timeout_stands}
use Rattle.status.specs.declared.Row.{Row}
use Rattle.status.specs.declared.standing.Standing.{Standing}
use Rattle.status.specs.declared.standing.When.TheVariants.{Trouble}
use Rattle.status.specs.Status.{cause_of, first_cause}
use Rattle.status.specs.Table.{table, holds}
use Rattle.status.proofs.TableLaws.{table_followed}
use Rattle.status.proofs.cause.Invariants.{named}
use Rattle.status.proofs.cause.Goals as goal

-- ---- a step of the walk

-- what a list gives past its end, where the walk does not look
abbrev no_row : Row
no_row = record { 0 = 0; 1 = 0; 2 = Trouble }

module _ (ier : ℕ) (stood : Standing) (rows : List Row) (k : ℕ) where
  module _ (enabled stands : Bool) (e : enabled ≡ bit (get_or rows k no_row).1 ier) (f : stands ≡ holds stood (get_or rows k no_row).2)
      (inside : k < length rows) where
    here : (enabled && stands) ≡ true → named ier stood (drop k rows) ≡ (get_or rows k no_row).0
    unfolding first_cause
    here h = rw (drop-cons rows k no_row inside, ← e, ← f, pick_true _ _ _ h)

    later : (enabled && stands) ≡ false → named ier stood (drop k rows) ≡ named ier stood (drop (k + 1) rows)
    unfolding first_cause
    later h = rw (drop-cons rows k no_row inside, ← e, ← f, pick_false _ _ _ h, add-one)

  past : length rows ≤ k → named ier stood (drop k rows) ≡ 1
  unfolding first_cause
  past behind = rw (drop_of_length-le rows behind)

-- ---- the walk

-- the whole table names what the definition does, with what the calls answer for the conditions
module _ (s : Settings) (r : Receiver) (t : Transmitter) (changes : ℕ) (fifo trouble reached timeout change : Bool) (least : ℕ) where
  chosen : fifo ≡ bit 0 s.fcr → trouble ≡ troubled fifo r → least ≡ trigger s.fcr → reached ≡ data_stands fifo least r
      → timeout ≡ timeout_stands r → change ≡ some_change changes
      → named s.ier (record { trouble = trouble; «data» = reached; timeout = timeout; flag = t.flag; change = change }) table
      ≡ cause_of s r t changes
  unfolding cause_of
  chosen mode e least-is f g h = rw (f, e, mode, least-is, g, h, ap first_cause (table_followed s r t changes))

-- the rows that the code has must be those of `table` for this, and for `loop-again`
pub returns-then-bit-holds : goal.returns-then-bit-holds
returns-then-bit-holds c = sym (here _ _ table c.loop-code.code-index _ _ c.bit.ensures c.holds.ensures (omega arith) c.if-bit-holds.true) ∙ c.loop-code.invariant
    ∙ chosen _ _ _ _ _ _ _ _ _ _ c.is_fifo-fifo.ensures c.trouble.ensures
    c.trigger.ensures c.«data».ensures c.timed_out.ensures c.any_change.ensures

pub loop-code-preserved : goal.loop-code-preserved
loop-code-preserved c = sym (later _ _ table c.loop-code.code-index _ _ c.bit.ensures c.holds.ensures (omega arith) c.if-bit-holds.false) ∙ c.loop-code.invariant

pub returns : goal.returns
returns c = sym (past _ _ table c.loop-code.code-index (omega arith)) ∙ c.loop-code.invariant
    ∙ chosen _ _ _ _ _ _ _ _ _ _ c.is_fifo-fifo.ensures c.trouble.ensures
    c.trigger.ensures c.«data».ensures c.timed_out.ensures c.any_change.ensures
