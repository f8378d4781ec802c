use Rattle.base.specs.PickLaws.{pick_true, pick_false}
use Rattle.seat_page.specs.SeatPages.{line_words}
use Rattle.seat_page.proofs.seats.line.Goals as goal

pub returns-then-line : goal.returns-then-line
unfolding line_words
returns-then-line c = simp (c.text.ensures, ← c.line.ensures, c.empty-none.ensures, c.if-line.true, pick_true)

pub returns : goal.returns
unfolding line_words
returns c = simp (c.text-2.ensures, ← c.line.ensures, c.empty-none.ensures, c.if-line.false, pick_false)
