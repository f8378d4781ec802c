-- A seat has at most 48 pieces, so that its page has room for all.
use Prim.Native.Nat.{ℕ, ◌≤◌}
use mathlib.Core.Bool.{Bool, true, false}
use mathlib.Core.List.{List, [], ◌∷◌, ◌++◌}
use mathlib.Core.Path.{◌≡◌}
use native.Mathlib.Omega.{arith}
use lib.ListN.{length, length-append, length-map, length-take}
use Rattle.text.specs.Quoted.{quoted}
use Rattle.page.specs.Pages.{headed}
use Rattle.page.specs.CountLaws.{all_count, head_count}
use Rattle.queue.specs.declared.Queue.{Queue}
use Rattle.queue.specs.Queue.{contents}
use Rattle.seat.specs.declared.Seat.{Seat}
use Rattle.seat.specs.Seats.{five}
use Rattle.seat_page.specs.SeatPages.{seat_head, read_pieces, line_pieces, character_words, queue_pieces, shift_words, queues_pieces, flag_pieces, tally_pieces, channel_pieces, seat_pieces}
use Rattle.seat_page.specs.HeadLaws.{seat_head_short}
use Rattle.seat_page.specs.Uncut.{Fields, Whole}

queue_few : (words : List ℕ) (marks : Bool) (q : Queue) → length q.slots ≡ 16 → length (queue_pieces words marks q) ≤ 17
unfolding queue_pieces
queue_few words marks q slots =
    let held : length (contents q) ≤ 16 = rw (length-take, slots) (omega arith) in
    omega (arith, held, length-map (contents q) (character_words marks))

module _ (s : Seat) (f : Fields s) where
  queues_few : length (queues_pieces s.channel) ≤ 35
  unfolding queues_pieces
  queues_few =
      let c = s.channel in
      let received = queue_pieces (quoted "received ") true c.receiver.queue in
      let waiting = queue_pieces (quoted "to send ") false c.transmitter.queue in
      let last : List (List ℕ) = shift_words c.transmitter ∷ [] in
      let a : length received ≤ 17 = queue_few (quoted "received ") true c.receiver.queue f.heard in
      let b : length waiting ≤ 17 = queue_few (quoted "to send ") false c.transmitter.queue f.sent in
      omega (arith, a, b, length-append received (waiting ++ last), length-append waiting last)

  channel_few : length (channel_pieces s.channel) ≤ 43
  unfolding channel_pieces read_pieces line_pieces flag_pieces
  channel_few =
      let c = s.channel in
      omega (arith, queues_few, length-append (queues_pieces c) (flag_pieces c))

  pieces_few : length (seat_pieces s) ≤ 48
  unfolding seat_pieces tally_pieces
  pieces_few = omega (arith, channel_few, length-append (channel_pieces s.channel) (tally_pieces (five s)))

pub whole : Whole
whole s n f small =
    omega (arith, all_count (headed (seat_head n)) (seat_pieces s), head_count (seat_head n), seat_head_short n (omega arith), pieces_few s f)
