use Rattle.seat_page.specs.SeatPages.{kept_words}
use Rattle.page.specs.PieceLaws.{with_append, with_none}
use Rattle.base.specs.PickLaws.{pick_true, pick_false}
use borrow.Author.Tests.{eq-eqb, ne_eqb}
use Rattle.seat_page.proofs.seats.kept.Goals as goal

pub returns-then-r-eq0 : goal.returns-then-r-eq0
unfolding kept_words
returns-then-r-eq0 c = simp (c.empty-none.ensures, eq-eqb _ _ c.if-r-eq0.true, pick_true, with_append, with_none)

pub returns : goal.returns
unfolding kept_words
returns c = simp (c.marks_named.ensures, c.text.ensures, c.empty-none.ensures, ne_eqb _ _ c.if-r-eq0.false, pick_false, with_append, with_none)
