use Rattle.std.proofs.Common.{◌≡◌, length, rules}
use Rattle.std.proofs.lemmas.List.{take_min}
use Rattle.page.specs.PageLaws.{joined_piece}
use Rattle.seat_page.specs.SeatPages.{queue_pieces}
use Rattle.seat_page.proofs.queues.tell_queue.Goals as goal

pub returns : goal.returns
unfolding queue_pieces
returns c = let slots : _ = c.args.q.slots in
    let full : length slots ≡ 16 = search rules in
    let few : _ = take_min c.args.q.count slots in
    simp (c.tell_characters.ensures, c.min-count.ensures, ← full, few, c.join-told.ensures, c.number.ensures, joined_piece)
