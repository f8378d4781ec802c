-- A seat as the code takes it out of the array is the seat of the bench; so nothing depends on what an index past the end would give.
use Rattle.std.proofs.Common.{ℕ, ◌≡◌, ◌<◌, length, get_or, arith}
use Rattle.std.proofs.lemmas.List.{get_or_default}
use Rattle.seat.specs.declared.Seat.{Seat}
use Rattle.seat.specs.Seats.{no_seat}
use Rattle.records.specs.Events.{seat_count}
use Rattle.bench.specs.declared.Bench.{Bench}
use Rattle.bench.specs.Seats.{chair, seat}

pub held_is : (b : Bench) (n : ℕ) (past : Seat) → length b.seats ≡ seat_count → get_or b.seats (chair n) past ≡ seat b n
unfolding seat
held_is b n past full =
    let small : chair n < length b.seats = omega (arith, full) in
    get_or_default b.seats (chair n) past no_seat small
