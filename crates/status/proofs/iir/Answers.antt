use native.Mathlib.Omega.{arith}
use Rattle.base.specs.PickLaws.{pick_le}
use Rattle.status.specs.Status.{iir_of}
use Rattle.status.specs.StatusLaws.{cause_small}
use Rattle.status.proofs.iir.Goals as goal

pub overflow_add-result : goal.overflow_add-result
overflow_add-result c = let a = c.args in
    omega (arith, cause_small a.settings a.receiver a.transmitter a.changes, c.cause-named.ensures, c.pick_byte.ensures, pick_le c.is_fifo.result 192 0 192 (omega arith) (omega arith))

pub returns : goal.returns
unfolding iir_of
returns c = simp (← c.pick_byte.ensures, ← c.is_fifo.ensures, ← c.cause-named.ensures)
