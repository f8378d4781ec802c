use native.Mathlib.Omega.{arith}
use Rattle.seat_page.specs.SeatPages.{seat_page, seat_pieces, seat_head}
use Rattle.seat_page.specs.HeadLaws.{seat_head_short}
use Rattle.page.specs.PageLaws.{joined_all_lem}
use Rattle.page.specs.PieceLaws.{said_all}
use Rattle.seat_page.proofs.seats.seat.Goals as goal

pub returns : goal.returns
unfolding seat_page seat_pieces
returns c = let n = c.args.n in
    simp (c.end.ensures, c.tell_tallies.ensures, c.five.ensures, c.tell_channel-page.ensures, c.begin.ensures, c.head.ensures, said_all (seat_head n) (seat_head_short n (omega arith)), joined_all_lem)
