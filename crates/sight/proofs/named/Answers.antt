use Rattle.base.specs.PickLaws.{pick_true, pick_false}
use Rattle.sight.specs.InUse.{with_named}
use Rattle.sight.proofs.named.Goals as goal

pub returns-then-kind-seat : goal.returns-then-kind-seat
unfolding with_named
returns-then-kind-seat c = simp (← c.only.ensures, c.if-kind-seat.true, pick_true)

pub returns : goal.returns
unfolding with_named
returns c = simp (c.if-kind-seat.false, pick_false)
