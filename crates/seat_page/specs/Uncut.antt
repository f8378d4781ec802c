-- No piece of a seat's page has more than the 68 characters of docs/TELLING.md, and the page has room for all of them; so none is cut.
use Rattle.std.specs.Prelude.{ℕ, ◌^◌, ◌<◌, true, ◌≡◌, length}
use Rattle.page.specs.Pieces.{piece_most}
use Rattle.page.specs.Pages.{page_most, shown, headed, joined_all}
use Rattle.page.specs.Columns.{keeps}
use Rattle.names.specs.Fits.{AllFit}
use Rattle.seat.specs.declared.Seat.{Seat}
use Rattle.seat_page.specs.SeatPages.{seat_head, seat_pieces, seat_page}

-- what the fields of a seat can hold: sixteen slots, bytes, and the tallies of 32 bits
pub record Fields (s : Seat) : Type 0 where
  pub heard : length s.channel.receiver.queue.slots ≡ 16
  pub sent : length s.channel.transmitter.queue.slots ≡ 16
  pub received : s.channel.receiver.queue.count < 2 ^ 8
  pub waiting : s.channel.transmitter.queue.count < 2 ^ 8
  pub timeout : s.channel.receiver.timeout < 2 ^ 8
  pub arrived : s.tallies.arrived < 2 ^ 32
  pub read : s.tallies.read < 2 ^ 32
  pub lost : s.tallies.lost < 2 ^ 32
  pub dropped : s.tallies.dropped < 2 ^ 32

abbrev pub NoneCut : Type 0
NoneCut = (s : Seat) → Fields s → AllFit piece_most (seat_pieces s)

-- there is room for the line feed behind the last piece
abbrev pub Whole : Type 0
Whole = (s : Seat) (n : ℕ) → Fields s → n < 2 ^ 8 → (joined_all (headed (seat_head n)) (seat_pieces s)).count < page_most

-- "lines of at most 80 columns"
abbrev pub OnTerminal : Type 0
OnTerminal = (s : Seat) (n : ℕ) → Fields s → n < 2 ^ 8 → keeps 0 (shown (seat_page s n)) ≡ true
