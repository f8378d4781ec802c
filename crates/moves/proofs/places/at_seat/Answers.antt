use Rattle.base.specs.PickLaws.{pick_true, pick_false}
use Rattle.moves.specs.Moved.{seat_moved}
use Rattle.moves.proofs.places.at_seat.Goals as goal

pub returns-then-kind-n : goal.returns-then-kind-n
unfolding seat_moved
returns-then-kind-n c = simp (c.channel_moved.ensures, c.if-kind-n.true, pick_true)

pub returns : goal.returns
unfolding seat_moved
returns c = simp (c.if-kind-n.false, pick_false)
