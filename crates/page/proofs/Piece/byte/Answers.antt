use Rattle.base.specs.PickLaws.{pick_true, pick_false}
use borrow.Author.Tests.{le-leb, le-ltb, lt-leb, lt-ltb}
use Rattle.page.specs.Pieces.{with_byte}
use Rattle.page.proofs.Piece.byte.Goals as goal

pub returns-then-at-lt-MOST : goal.returns-then-at-lt-MOST
unfolding with_byte
returns-then-at-lt-MOST c = simp (lt-ltb _ _ c.if-at-lt-MOST.true, lt-leb _ _ c.if-at-lt-MOST.true, pick_true, pick_false)

pub returns : goal.returns
unfolding with_byte
returns c = simp (le-ltb _ _ c.if-at-lt-MOST.false, le-leb _ _ c.if-at-lt-MOST.false, pick_true, pick_false)
