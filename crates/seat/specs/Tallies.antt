-- The tallies of a seat: how many characters arrived, and what became of them.
use Rattle.std.specs.Prelude.{ℕ, ◌+◌, ◌%◌, Bool, ◌&&◌, List, length, ◌==◌, nat_le}
use Rattle.receiver.specs.Ledger.{Moment, Side, arrived_in, read_in, lost_in, dropped_in}
use Rattle.seat.specs.declared.Tallies.{Tallies}

-- ticket 8: "five 32-bit tallies": the largest number that one holds
abbrev pub largest : ℕ
largest = 0xFFFFFFFF

-- what 32 bits keep of a number
abbrev pub wrapped : ℕ → ℕ
wrapped n = n % 4294967296

-- ticket 8: "tallies of received characters since power-up"
abbrev pub no_tallies : Tallies
no_tallies = record { arrived = 0; read = 0; lost = 0; dropped = 0 }

-- with so many more under each name
abbrev pub more : Tallies → ℕ → ℕ → ℕ → ℕ → Tallies
more t arrived read lost dropped =
    record {
      arrived = wrapped (t.arrived + arrived);
      read = wrapped (t.read + read);
      lost = wrapped (t.lost + lost);
      dropped = wrapped (t.dropped + dropped);
    }

-- ticket 8: "arrived, read, lost by overrun, dropped by emptying": to each is added what the receive ledger has under its name, of what befalls the
-- receive side
unfoldable pub tallied : Tallies → Side → List Moment → Tallies
tallied t s ms = more t (length (arrived_in ms)) (length (read_in s ms)) (lost_in s ms) (dropped_in s ms)

-- ticket 8: "the other four add up to it", in any number of bits, and it is a number of 32; with this many still queued
unfoldable pub add_up : Tallies → ℕ → Bool
add_up t queued = t.read + t.lost + t.dropped + queued == t.arrived && nat_le t.arrived largest
