use Rattle.std.proofs.Common.{◌+◌, ◌≤◌, Bool, ◌&&◌, eqb, sym, ap, ◌∙◌, arith, le-leb}
use mathlib.Core.Bool.{and-true}
use Rattle.seat.specs.Tallies.{add_up}
use Rattle.seat.proofs.Tallies.add_up.Goals as goal

pub returns : goal.returns
unfolding add_up
returns c = let t = c.args.self in
    let n = c.args.queued in
    let small : t.arrived ≤ 0xFFFFFFFF = omega arith in
    sym (ap (λ (b : Bool). eqb (t.read + t.lost + t.dropped + n) t.arrived && b) (le-leb t.arrived 0xFFFFFFFF small) ∙ and-true _)
