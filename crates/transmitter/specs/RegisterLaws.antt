-- What an IIR read, an IER write and an FCR write do to the send side, field by field.
use Rattle.std.specs.Prelude.{Bool, true, false, not, ◌&&◌, ◌||◌, ◌≡◌}
use Rattle.std.proofs.Math.Bool.{and-true, and-false, or-true, or-false}
use Rattle.std.proofs.Common.{sym}
use Rattle.base.specs.Pick.{pick}
use Rattle.queue.specs.Queue.{empty_queue}
use Rattle.transmitter.specs.declared.Transmitter.{Transmitter}
use Rattle.transmitter.specs.Transmitter.{none_waiting, flag_set_if, emptied, enabled, iir_seen, ier_sent, fcr_sent}

-- a flag in place of another that is the same
reflagged : (t : Transmitter) {flag : Bool} → t.flag ≡ flag → t ≡ record { queue = t.queue; busy = t.busy; shift = t.shift; flag = flag }
reflagged t same = λ i. record { queue = t.queue; busy = t.busy; shift = t.shift; flag = same i }

flag_set_lem : (b : Bool) (t : Transmitter) → flag_set_if b t ≡ record { queue = t.queue; busy = t.busy; shift = t.shift; flag = t.flag || b }
unfolding flag_set_if pick
flag_set_lem true t = reflagged (flag_set_if true t) (sym (or-true t.flag))
flag_set_lem false t = reflagged t (sym (or-false t.flag))

-- the flag is clear after a read that named it, and as it was after any other
pub iir_clears_flag : (named : Bool) (t : Transmitter)
    → iir_seen named t ≡ record { queue = t.queue; busy = t.busy; shift = t.shift; flag = t.flag && not named }
unfolding pick
iir_clears_flag true t = reflagged (iir_seen true t) (sym (and-false t.flag))
iir_clears_flag false t = reflagged t (sym (and-true t.flag))

-- a rise of IER bit 1 sets it where nothing waits
pub ier_sets_flag : (rise : Bool) (t : Transmitter)
    → ier_sent rise t ≡ record { queue = t.queue; busy = t.busy; shift = t.shift; flag = t.flag || (rise && none_waiting t) }
unfolding pick enabled
ier_sets_flag true t = flag_set_lem (none_waiting t) t
ier_sets_flag false t = reflagged t (sym (or-false t.flag))

-- what is asked for empties the queue, and sets it where something waited
pub fcr_empties : (asked : Bool) (t : Transmitter)
    → fcr_sent asked t ≡ record { queue = pick asked empty_queue t.queue; busy = t.busy; shift = t.shift; flag = t.flag || (asked && not (none_waiting t)) }
unfolding pick emptied
fcr_empties true t = flag_set_lem (not (none_waiting t)) (record { queue = empty_queue; busy = t.busy; shift = t.shift; flag = t.flag })
fcr_empties false t = reflagged t (sym (or-false t.flag))
