use Rattle.seat_page.specs.SeatPages.{channel_pieces}
use Rattle.page.specs.PageLaws.{joined_all_lem}
use Rattle.seat_page.proofs.seats.tell_channel.Goals as goal

pub returns : goal.returns
unfolding channel_pieces
returns c = simp (c.tell_flags.ensures, c.tell_queues.ensures, c.tell_line.ensures, c.tell_reads.ensures, joined_all_lem)
