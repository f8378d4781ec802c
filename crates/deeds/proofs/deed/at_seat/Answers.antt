use Rattle.base.specs.PickLaws.{pick_true, pick_false}
use borrow.Author.Tests.{ne_eqb}
use native.Mathlib.Omega.{arith}
use Rattle.deeds.specs.Done.{seat_done}
use Rattle.deeds.proofs.deed.at_seat.Goals as goal

pub returns-in-0 : goal.returns-in-0
unfolding seat_done
returns-in-0 c = simp (c.read.ensures, c.in-0.is, pick_true, pick_false)

pub returns-in-1 : goal.returns-in-1
unfolding seat_done
returns-in-1 c = simp (c.write.ensures, c.in-1.is, pick_true, pick_false)

pub returns-in-2 : goal.returns-in-2
unfolding seat_done
returns-in-2 c = simp (c.arrival.ensures, c.in-2.is, pick_true, pick_false)

pub returns-in-3 : goal.returns-in-3
unfolding seat_done
returns-in-3 c = simp (c.levels.ensures, c.in-3.is, pick_true, pick_false)

pub returns-in_default : goal.returns-in_default
unfolding seat_done
returns-in_default c = simp (c.time.ensures, ne_eqb c.args.whole.kind 3 (λ e. omega arith), ne_eqb c.args.whole.kind 2 (λ e. omega arith), ne_eqb c.args.whole.kind 1 (λ e. omega arith), ne_eqb c.args.whole.kind 0 (λ e. omega arith), pick_false)
