use Rattle.seat_page.specs.SeatPages.{line_pieces}
use Rattle.page.specs.PageLaws.{joined_piece}
use Rattle.seat_page.proofs.seats.tell_line.Goals as goal

pub returns : goal.returns
unfolding line_pieces
returns c = simp (c.join-2.ensures, c.join.ensures, c.line.ensures, c.word-loopback.ensures, c.is_looped.ensures, c.empty.ensures, joined_piece)
