use Rattle.page.specs.PieceLaws.{with_none}
use Rattle.base.specs.PickLaws.{pick_true, pick_false}
use borrow.Author.Tests.{eq-eqb, ne_eqb}
use Rattle.seat_page.specs.SeatPages.{timeout_words}
use Rattle.seat_page.proofs.seats.timeout.Goals as goal

pub returns-then-r-eq0 : goal.returns-then-r-eq0
unfolding timeout_words
returns-then-r-eq0 c = simp (c.empty.ensures, eq-eqb _ _ c.if-r-eq0.true, pick_true, with_none)

pub returns : goal.returns
unfolding timeout_words
returns c = simp (c.number.ensures, ne_eqb _ _ c.if-r-eq0.false, pick_false)
