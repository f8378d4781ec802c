use Rattle.seat_page.specs.SeatPages.{tally_pieces}
use Rattle.page.specs.PageLaws.{joined_piece}
use Rattle.seat_page.proofs.seats.tell_tallies.Goals as goal

pub returns : goal.returns
unfolding tally_pieces
returns c = simp (c.join.ensures, c.number-5.ensures, c.join-page-4.ensures, c.number-4.ensures, c.join-page-3.ensures, c.number-3.ensures, c.join-page-2.ensures, c.number-2.ensures, c.join-page.ensures, c.number.ensures, joined_piece)
