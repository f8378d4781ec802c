-- The five tallies by the number of a seat: its own where it is there, and none where the number is too large.
use Rattle.std.specs.Prelude.{ℕ, Bool, true, false, refl, Ok, Err, ◌<◌, ◌≤◌, ◌≡◌}
use Rattle.std.proofs.Common.{le-leb}
use Rattle.std.proofs.lemmas.Bool.{lt-leb}
use Rattle.base.specs.Pick.{pick}
use Rattle.base.specs.PickLaws.{pick_true, pick_false}
use Rattle.base.specs.Refusals.{number_of}
use Rattle.bench.specs.declared.Bench.{Bench}
use Rattle.bench.specs.Seats.{seat}
use Rattle.base.specs.declared.Answer.TheVariants.{Done, Refused}
use Rattle.base.specs.declared.Refusal.TheVariants.{SeatAbove}
use Rattle.seat.specs.declared.Five.{Five}
use Rattle.seat.specs.declared.Seat.{Seat}
use Rattle.seat.specs.Seats.{five}
use Rattle.records.specs.Events.{seat_count, seat_above}
use Rattle.bench.specs.Tallies.{no_five, asked_by, asked_of, handed, tallied_by, tallies_of}

-- a seat that is there is answered with its own five
pub tallied_told : (s : Seat) (n : ℕ) → n < seat_count → tallied_by s n ≡ record { answer = Done; five = five s }
tallied_told s n there = pick_false _ _ _ (lt-leb seat_count n there)

-- "seat (or line) above 7"
pub tallied_refused : (s : Seat) (n : ℕ) → seat_count ≤ n → tallied_by s n ≡ record { answer = Refused 1; five = no_five }
tallied_refused s n above = pick_true _ _ _ (le-leb seat_count n above)

-- C is handed what was asked for
handed_either : (above : Bool) (z : Five)
    → handed (pick above (Err SeatAbove) (Ok z)) ≡ pick above (record { answer = Refused 1; five = no_five }) (record { answer = Done; five = z })
unfolding handed number_of pick
handed_either true z = refl
handed_either false z = refl

pub handed_asked : (s : Seat) (n : ℕ) → handed (asked_by s n) ≡ tallied_by s n
handed_asked s n = handed_either (seat_above n) (five s)

pub handed_of : (b : Bench) (n : ℕ) → handed (asked_of b n) ≡ tallies_of b n
unfolding asked_of tallies_of
handed_of b n = handed_asked (seat b n) n
