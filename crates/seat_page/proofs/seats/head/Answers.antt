use Rattle.page.specs.PieceLaws.{with_append, with_none}
use Rattle.page.specs.Pieces.{with}
use Rattle.seat_page.specs.SeatPages.{seat_head}
use Rattle.seat_page.proofs.seats.head.Goals as goal

pub returns : goal.returns
unfolding with seat_head
returns c = simp (c.text-2.ensures, c.decimal.ensures, c.text-name.ensures, c.text.ensures, c.empty.ensures, with_append, with_none)
