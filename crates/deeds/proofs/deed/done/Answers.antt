use Rattle.base.specs.PickLaws.{pick_true, pick_false}
use borrow.Author.Tests.{le-ltb, lt-ltb}
use Rattle.deeds.specs.Done.{whole_done}
use Rattle.deeds.proofs.deed.done.Goals as goal

pub returns-then-whole-lt-MASTER_RESET : goal.returns-then-whole-lt-MASTER_RESET
unfolding whole_done
returns-then-whole-lt-MASTER_RESET c = simp (c.at_seat.ensures, lt-ltb _ _ c.if-whole-lt-MASTER_RESET.true, pick_true)

pub returns : goal.returns
unfolding whole_done
returns c = simp (c.elsewhere.ensures, le-ltb _ _ c.if-whole-lt-MASTER_RESET.false, pick_false)
