use Rattle.seat_page.specs.SeatPages.{shift_words}
use Rattle.page.specs.PieceLaws.{with_append, with_none}
use Rattle.base.specs.PickLaws.{pick_true, pick_false}
use Rattle.seat_page.proofs.queues.shift.Goals as goal

pub returns-then-t : goal.returns-then-t
unfolding shift_words
returns-then-t c = simp (c.letter.ensures, c.text.ensures, c.empty-none.ensures, c.if-t.true, pick_true, with_append, with_none)

pub returns : goal.returns
unfolding shift_words
returns c = simp (c.empty-none.ensures, c.if-t.false, pick_false, with_append, with_none)
