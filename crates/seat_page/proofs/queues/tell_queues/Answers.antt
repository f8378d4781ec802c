use Rattle.seat_page.specs.SeatPages.{queues_pieces}
use Rattle.page.specs.PageLaws.{joined_all_lem, joined_piece}
use Rattle.seat_page.proofs.queues.tell_queues.Goals as goal

pub returns : goal.returns
unfolding queues_pieces
returns c = simp (c.join.ensures, c.shift.ensures, c.tell_queue-waiting.ensures, c.tell_queue-received.ensures, joined_piece, joined_all_lem)
