-- A closed run of the receive ledger from power-up, by computation: every count of it is above 0.
use mathlib.Core.List.{List, [], ◌∷◌}
use mathlib.Core.Path.{◌≡◌, refl}
use Rattle.receiver.specs.Ledger.{bytes}
use Rattle.records.specs.Events.{Record, whole}
use Rattle.bench.specs.Runs.{after_all}
use Rattle.bench.specs.Seats.{power_up}
use Rattle.bench.specs.Steps.{outcome}
use Rattle.demands.specs.SeatLedger.{arrived_at, read_at, lost_at, dropped_at, queued_at}
use Rattle.demands.proofs.Opened.{laid_open}

-- seat 3: divisor 12 and LCR 03, two arrivals in 16450 mode, of which the second replaces the first, and two reads, of which the second finds
-- nothing; then FIFO mode, three arrivals, the first with a framing mark, among an arrival that seat 4 refuses, one read, the queue emptied, and one arrival more
unfoldable pub lesson : List Record
lesson =
    whole 1 3 3 0x83 ∷ whole 1 3 0 12 ∷ whole 1 3 3 0x03 ∷ whole 2 3 0 0x41 ∷ whole 2 3 0 0x42 ∷ whole 0 3 0 0 ∷ whole 0 3 0 0
    ∷ whole 1 3 2 0x81 ∷ whole 2 3 2 1 ∷ whole 2 4 0 7 ∷ whole 2 3 0 2 ∷ whole 2 3 0 3 ∷ whole 0 3 0 0 ∷ whole 1 3 2 0x83 ∷ whole 2 3 0 9 ∷ []

-- six arrived: two were read, one was lost, two were dropped, one waits
pub counted : (bytes (arrived_at outcome 3 power_up lesson) ≡ 0x41 ∷ 0x42 ∷ 1 ∷ 2 ∷ 3 ∷ 9 ∷ [])
    × (read_at outcome 3 power_up lesson
    ≡ record { character = record { «data» = 0x42; marks = 0 }; behind = 0 } ∷ record { character = record { «data» = 1; marks = 2 }; behind = 2 } ∷ [])
    × (lost_at outcome 3 power_up lesson ≡ 1)
    × (dropped_at outcome 3 power_up lesson ≡ 2)
    × (queued_at 3 (after_all power_up lesson) ≡ 9 ∷ [])
unfolding laid_open lesson
counted = (refl, refl, refl, refl, refl)
