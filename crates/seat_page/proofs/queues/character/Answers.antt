use Rattle.base.specs.PickLaws.{pick_true, pick_false}
use Rattle.page.specs.PieceLaws.{with_append, with_none}
use Rattle.seat_page.specs.SeatPages.{character_words}
use Rattle.seat_page.proofs.queues.character.Goals as goal

pub returns-then-marks : goal.returns-then-marks
unfolding character_words
returns-then-marks c = simp (c.marks.ensures, c.letter-letter.ensures, c.empty.ensures, c.if-marks.true, pick_true, with_append, with_none)

pub returns : goal.returns
unfolding character_words
returns c = simp (c.letter-letter.ensures, c.empty.ensures, c.if-marks.false, pick_false, with_append, with_none)
