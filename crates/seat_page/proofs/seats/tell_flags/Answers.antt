use Rattle.seat_page.specs.SeatPages.{flag_pieces}
use Rattle.page.specs.PageLaws.{joined_piece}
use Rattle.seat_page.proofs.seats.tell_flags.Goals as goal

pub returns : goal.returns
unfolding flag_pieces
returns c = simp (c.join-3.ensures, c.kept.ensures, c.join-2.ensures, c.join.ensures, c.timeout.ensures, c.word-flag.ensures, c.empty.ensures, joined_piece)
