-- The eight lines, and one turn of the reader.
use Rattle.std.specs.Prelude.{ℕ, ◌+◌, ◌-◌, Bool, ◌&&◌, ◌<◌, true, false, List, map, ◌≡◌, refl, length, get_or, take, drop, set, Option, Some, None, is_some, unwrap_or}
use Rattle.std.proofs.Common.{ap, ap₂, sym, ◌∙◌}
use Rattle.std.proofs.lemmas.List.Edits.{sets}
use Rattle.base.specs.Bits.{bits}
use Rattle.base.specs.Every.{every}
use Rattle.base.specs.EveryLaws.{every_next, every_fails}
use Rattle.base.specs.ListLaws.{listed, written_out}
use Rattle.base.specs.PickLaws.{pick_false}
use Rattle.base.specs.StoreLaws.{listed_stored}
use Rattle.seat.specs.declared.Seat.{Seat}
use Rattle.seat.specs.Seats.{no_seat, line, power_up}
use Rattle.records.specs.Events.{seat_count}
use Rattle.bench.specs.Seats.{lines}
use Rattle.seat_image.specs.Read.{found}
use Rattle.seat_image.specs.ReadLaws.{lent_to_end}
use Rattle.image.specs.Layout.{version_of, place_in}
use Rattle.image.specs.Read.{record_at, seat_at, good_at, seats_good, records_from}

-- the lines of eight seats, one by one
pub lines_written : (seats : List Seat) → length seats ≡ seat_count → bits (listed seat_count (λ n. line (get_or seats n no_seat))) ≡ lines seats
unfolding lines
lines_written seats all = ap (λ (l : List Seat). bits (map line l)) (written_out seat_count seats no_seat all)

module _ (p : List ℕ) (k version place : ℕ) (same : version ≡ version_of p) (there : place ≡ place_in version k) where
  as_placed : (r : Option Seat) → r ≡ found version (take (length p - place) (drop place p)) → r ≡ record_at p k
  as_placed r given =
      given ∙ ap (found version) (lent_to_end place p) ∙ ap (λ (n : ℕ). found version (drop n p)) there
      ∙ ap (λ (v : ℕ). found v (drop (place_in v k) p)) same

  pub bad_turn : None ≡ found version (take (length p - place) (drop place p)) → good_at p k ≡ false
  bad_turn none = sym (ap is_some (as_placed None none))

  module _ (r : Option Seat) (given : r ≡ found version (take (length p - place) (drop place p))) where
    pub seat_turn : (seats₀ seats : List Seat) → seats ≡ sets seats₀ 0 (listed k (seat_at p))
        → set seats k (unwrap_or r power_up) ≡ sets seats₀ 0 (listed (k + 1) (seat_at p))
    seat_turn seats₀ seats before =
        ap₂ (λ (l : List Seat) (s : Seat). set l k s) before (ap (λ (o : Option Seat). unwrap_or o power_up) (as_placed r given))
        ∙ listed_stored k (seat_at p) seats₀

    pub good_turn : (good : Bool) → good ≡ every k (good_at p) → (is_some r && good) ≡ every (k + 1) (good_at p)
    good_turn good before = ap₂ ◌&&◌ (ap is_some (as_placed r given)) before ∙ sym (every_next k (good_at p))

pub none_of : (p : List ℕ) (k : ℕ) → k < seat_count → good_at p k ≡ false → None ≡ records_from p
unfolding records_from seats_good
none_of p k below bad = sym (pick_false _ _ _ (every_fails seat_count (good_at p) k below bad))

-- what a record says, where it says a seat
pub some_at : (p : List ℕ) (k : ℕ) → good_at p k ≡ true → record_at p k ≡ Some (seat_at p k)
some_at p k good = by (record_at p k) good
  where
    by : (o : Option Seat) → is_some o ≡ true → o ≡ Some (unwrap_or o power_up)
    by None never-some = absurd cc
    by (Some s) some = refl
