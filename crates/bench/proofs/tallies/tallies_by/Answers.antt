use Rattle.base.specs.PickLaws.{pick_true, pick_false}
use borrow.Author.Tests.{le-leb, le-ltb, lt-leb, lt-ltb}
use Rattle.bench.proofs.tallies.tallies_by.Goals as goal

pub returns-then-n-ge-SEATS : goal.returns-then-n-ge-SEATS
returns-then-n-ge-SEATS c = simp (le-ltb _ _ c.if-n-ge-SEATS.true, le-leb _ _ c.if-n-ge-SEATS.true, pick_true, pick_false)

pub returns : goal.returns
returns c = simp (← c.five.ensures, lt-ltb _ _ c.if-n-ge-SEATS.false, lt-leb _ _ c.if-n-ge-SEATS.false, pick_true, pick_false)
