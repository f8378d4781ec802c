-- Each piece of a seat fits, and so does its page.
use Prim.Native.Nat.{ℕ, ◌^◌, ◌≤◌, ◌<◌}
use mathlib.Core.Bool.{Bool, true, false}
use mathlib.Core.List.{List, [], ◌∷◌, ◌++◌, map}
use mathlib.Core.Path.{◌≡◌, refl}
use native.Mathlib.Omega.{arith}
use lib.Dec.{eqb}
use lib.ListN.{length, replicate}
use Rattle.base.specs.Pick.{pick}
use Rattle.text.specs.Line.{space, decimal}
use Rattle.text.specs.Quoted.{quoted}
use Rattle.page.specs.Pieces.{letter}
use Rattle.page.specs.FitLaws.{no_feed, pieces_fit_terminal}
use Rattle.names.specs.Words.{marks_said}
use Rattle.names.specs.Fits.{Fits, AllFit}
use Rattle.names.specs.FitLaws.{fits_quoted, fits_none, fits_more, fits_append, fits_behind, fits_pick, fits_decimal, fits_byte, fits_letter, all_fit_append, all_one_line}
use Rattle.names.specs.WordLaws.{lsr_fits, iir_fits, msr_fits, marks_fit_lem, marks_named_fit}
use Rattle.queue.specs.declared.Character.{Character}
use Rattle.queue.specs.declared.Queue.{Queue}
use Rattle.queue.specs.Queue.{contents}
use Rattle.receiver.specs.declared.Receiver.{Receiver}
use Rattle.transmitter.specs.declared.Transmitter.{Transmitter}
use Rattle.channel.specs.declared.Channel.{Channel}
use Rattle.channel.specs.Parts.{in_loopback}
use Rattle.channel.specs.Status.{lsr, iir, msr, line}
use Rattle.seat.specs.declared.Seat.{Seat}
use Rattle.seat.specs.Seats.{five}
use Rattle.seat_page.specs.SeatPages.{seat_head, read_pieces, line_words, line_pieces, character_words, queue_pieces, shift_words, queues_pieces, timeout_words, kept_words, flag_pieces, tally_pieces, channel_pieces, seat_pieces, seat_page}
use Rattle.seat_page.specs.Uncut.{Fields, NoneCut, OnTerminal}

said : (words : List ℕ) → no_feed words ≡ true → length words ≤ 68 → Fits 68 words
said words clear few = fits_more (fits_quoted words clear) few

where_so : (test : Bool) (words : List ℕ) → no_feed words ≡ true → length words ≤ 68 → Fits 68 (pick test words [])
where_so test words clear few = fits_pick test (said words clear few) (fits_none 68)

number_fits : (words : List ℕ) (n : ℕ) → no_feed words ≡ true → length words ≤ 58 → n < 2 ^ 32 → Fits 68 (words ++ decimal n)
number_fits words n clear few small = fits_more (fits_behind words clear (fits_decimal 9 n (omega arith))) (omega arith)

reads_fit : (c : Channel) → AllFit 68 (read_pieces c)
unfolding read_pieces
reads_fit c = (lsr_fits (lsr c), (iir_fits (iir c), (msr_fits (msr c), tt)))

line_fits : (c : Channel) → AllFit 68 (line_pieces c)
unfolding line_pieces line_words
line_fits c = (
  fits_pick (line c) (said (quoted "line high") refl (omega arith)) (said (quoted "line low") refl (omega arith)),
  (where_so (in_loopback c) (quoted "loopback") refl (omega arith), tt),
)

character_fits : (marks : Bool) (ch : Character) → Fits 68 (character_words marks ch)
unfolding character_words
character_fits marks ch =
    fits_more
    (fits_append (letter ch.«data») (pick marks (marks_said ch.marks) []) (fits_letter ch.«data») (fits_pick marks (marks_fit_lem ch.marks) (fits_none 26)))
    (omega arith)

characters_fit : (marks : Bool) (l : List Character) → AllFit 68 (map (character_words marks) l)
characters_fit marks [] = tt
characters_fit marks (ch ∷ l) = (character_fits marks ch, characters_fit marks l)

queue_fits : (words : List ℕ) (marks : Bool) (q : Queue) → no_feed words ≡ true → length words ≤ 58 → q.count < 2 ^ 8 → AllFit 68 (queue_pieces words marks q)
unfolding queue_pieces
queue_fits words marks q clear few small = (number_fits words q.count clear few (omega arith), characters_fit marks (contents q))

shift_fits : (t : Transmitter) → Fits 68 (shift_words t)
unfolding shift_words
shift_fits t = fits_pick t.busy (fits_more (fits_behind (quoted "shift register ") refl (fits_letter t.shift)) (omega arith)) (fits_none 68)

timeout_fits : (r : Receiver) → r.timeout < 2 ^ 8 → Fits 68 (timeout_words r)
unfolding timeout_words
timeout_fits r small =
    fits_pick (eqb r.timeout 0) (fits_none 68) (number_fits (quoted "time-out count ") r.timeout refl (omega arith) (omega arith))

kept_fits : (r : Receiver) → Fits 68 (kept_words r)
unfolding kept_words
kept_fits r =
    fits_pick (eqb r.kept 0) (fits_none 68)
    (fits_more (fits_behind (quoted "kept marks") refl (marks_named_fit r.kept)) (omega arith))

head_fits : (n : ℕ) → n < 2 ^ 8 → Fits 22 (seat_head n)
unfolding seat_head
head_fits n small =
    fits_behind (replicate 12 space) refl
    (fits_behind (quoted "seat ") refl (fits_append (decimal n) (quoted ": ") (fits_byte n (omega arith)) (fits_quoted (quoted ": ") refl)))

module _ (s : Seat) (f : Fields s) where
  queues_fit : AllFit 68 (queues_pieces s.channel)
  unfolding queues_pieces
  queues_fit =
      let c = s.channel in
      let received = queue_pieces (quoted "received ") true c.receiver.queue in
      let waiting = queue_pieces (quoted "to send ") false c.transmitter.queue in
      let last : List (List ℕ) = shift_words c.transmitter ∷ [] in
      all_fit_append 68 received (waiting ++ last) (queue_fits (quoted "received ") true c.receiver.queue refl (omega arith) f.received)
      (all_fit_append 68 waiting last (queue_fits (quoted "to send ") false c.transmitter.queue refl (omega arith) f.waiting)
      (shift_fits c.transmitter, tt))

  flags_fit : AllFit 68 (flag_pieces s.channel)
  unfolding flag_pieces
  flags_fit = (
    timeout_fits s.channel.receiver f.timeout,
    (
      where_so s.channel.transmitter.flag (quoted "holding-empty flag") refl (omega arith),
      (kept_fits s.channel.receiver, tt),
    ),
  )

  channel_fits : AllFit 68 (channel_pieces s.channel)
  unfolding channel_pieces
  channel_fits =
      let c = s.channel in
      all_fit_append 68 (read_pieces c) (line_pieces c ++ (queues_pieces c ++ flag_pieces c)) (reads_fit c)
      (all_fit_append 68 (line_pieces c) (queues_pieces c ++ flag_pieces c) (line_fits c) (all_fit_append 68 (queues_pieces c) (flag_pieces c) queues_fit flags_fit))

  tallies_fit : AllFit 68 (tally_pieces (five s))
  unfolding tally_pieces
  tallies_fit = (
    number_fits (quoted "arrived ") s.tallies.arrived refl (omega arith) f.arrived,
    (
      number_fits (quoted "read ") s.tallies.read refl (omega arith) f.read,
      (
        number_fits (quoted "lost ") s.tallies.lost refl (omega arith) f.lost,
        (
          number_fits (quoted "dropped ") s.tallies.dropped refl (omega arith) f.dropped,
          (number_fits (quoted "queued ") s.channel.receiver.queue.count refl (omega arith) (omega (arith, f.received)), tt),
        ),
      ),
    ),
  )

  pieces_fit : AllFit 68 (seat_pieces s)
  unfolding seat_pieces
  pieces_fit = all_fit_append 68 (channel_pieces s.channel) (tally_pieces (five s)) channel_fits tallies_fit

pub none_cut : NoneCut
none_cut = pieces_fit

pub on_terminal : OnTerminal
unfolding seat_page
on_terminal s n f small =
    let h : Fits 22 (seat_head n) = head_fits n small in
    pieces_fit_terminal (seat_head n) (seat_pieces s) h.one (omega (arith, h.short)) (all_one_line 68 (seat_pieces s) (pieces_fit s f))
