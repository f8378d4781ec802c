-- What decoding refuses, and what it leaves to the rooms.
use Rattle.std.specs.Prelude.{ℕ, ◌<◌, ◌≤◌, true, List, [], ◌≡◌, refl, take, drop}
use Rattle.std.proofs.Common.{append-nil, subst, arith, lt-ltb, le-ltb, le-leb}
use Rattle.std.proofs.lemmas.Bool.{lt-leb}
use Rattle.base.specs.Pick.{pick}
use Rattle.base.specs.Refusals.{Ground, refusal_order, first_of, refusal_by, first_held}
use Rattle.base.specs.RefusalLaws.{follows, follows_parts, in_order}
use Rattle.records.specs.Events.{Record, whole, short, seat_count, early_grounds, early}

-- "The order is 4, 3, 1, 2": the first three are decoding's
pub early_in_turn : (r : Record) → follows (take 3 refusal_order) (early_grounds r) ≡ true
early_in_turn (whole kind seat number value) = refl
early_in_turn short = refl

-- and so they follow the order
early_ordered : (r : Record) → follows refusal_order (early_grounds r) ≡ true
early_ordered r =
    subst (λ (l : List Ground). follows refusal_order l ≡ true) (append-nil (early_grounds r))
    (follows_parts (take 3 refusal_order) (drop 3 refusal_order) (early_grounds r) [] (early_in_turn r) refl)

-- the number is that of the first that holds
pub early_held : (r : Record) → early r ≡ first_held (early_grounds r)
unfolding early
early_held r = in_order (early_grounds r) (early_ordered r)

-- "kind above 8": 3, whatever the other bytes
pub early_kind : (k s n v : ℕ) → 8 < k → early (whole k s n v) ≡ 3
unfolding early refusal_by first_of pick
early_kind k s n v above = rw (lt-ltb 8 k above)

-- "seat (or line) above 7": 1 for each of the five kinds that use the seat, whatever the register
pub early_seat : (k s n v : ℕ) → k < 5 → seat_count ≤ s → early (whole k s n v) ≡ 1
unfolding early refusal_by first_of pick
early_seat k s n v uses above = rw (le-ltb 8 k (omega arith), lt-ltb k 5 uses, le-leb seat_count s above)

-- nothing else is refused here: kinds to 8 with a seat that is there, and the four kinds that use no seat
pub taken_seat : (k s n v : ℕ) → k < 5 → s < seat_count → early (whole k s n v) ≡ 0
unfolding early refusal_by first_of pick
taken_seat k s n v uses within = rw (le-ltb 8 k (omega arith), lt-ltb k 5 uses, lt-leb seat_count s within)

pub taken_other : (k s n v : ℕ) → 5 ≤ k → k < 9 → early (whole k s n v) ≡ 0
unfolding early refusal_by first_of pick
taken_other k s n v other within = rw (le-ltb 8 k (omega arith), le-ltb k 5 other)
