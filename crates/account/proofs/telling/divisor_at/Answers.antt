use Rattle.base.specs.PickLaws.{pick_true, pick_false}
use borrow.Author.Tests.{le-leb, le-ltb, lt-leb, lt-ltb}
use Rattle.account.specs.Told.{divisor_at}
use Rattle.account.proofs.telling.divisor_at.Goals as goal

pub returns-then-n-ge-SEATS : goal.returns-then-n-ge-SEATS
unfolding divisor_at
returns-then-n-ge-SEATS c = simp (le-ltb _ _ c.if-n-ge-SEATS.true, le-leb _ _ c.if-n-ge-SEATS.true, pick_true, pick_false)

pub returns : goal.returns
unfolding divisor_at
returns c = simp (← c.bit.ensures, ← c.channel_at.ensures, lt-ltb _ _ c.if-n-ge-SEATS.false, lt-leb _ _ c.if-n-ge-SEATS.false, pick_true, pick_false)
