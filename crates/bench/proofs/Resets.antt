-- A loop that resets one seat after another resets them all.
use Rattle.std.specs.Prelude.{ℕ, zero, suc, ◌+◌, ◌<◌, ◌≤◌, List, [], ◌∷◌, map, ◌≡◌, refl, length, get_or}
use Rattle.std.proofs.Common.{ap, arith}
use Rattle.std.proofs.Math.ListN.{set}
use Rattle.seat.specs.declared.Seat.{Seat}
use Rattle.seat.specs.Seats.{reset}

-- the seats, so many of them reset
abbrev pub reset_first : ℕ → List Seat → List Seat
reset_first zero l = l
reset_first (suc n) [] = []
reset_first (suc n) (s ∷ l) = reset s ∷ reset_first n l

pub reset_one : (l : List Seat) (i : ℕ) (d : Seat) → i < length l → set (reset_first i l) i (reset (get_or (reset_first i l) i d)) ≡ reset_first (suc i) l
reset_one [] i d h = absurd (omega arith)
reset_one (s ∷ l) zero d h = refl
reset_one (s ∷ l) (suc i) d h = ap (λ (rest : List Seat). reset s ∷ rest) (reset_one l i d (omega arith))

pub reset_whole : (l : List Seat) (n : ℕ) → length l ≤ n → reset_first n l ≡ map reset l
reset_whole [] zero h = refl
reset_whole [] (suc n) h = refl
reset_whole (s ∷ l) zero h = absurd (omega arith)
reset_whole (s ∷ l) (suc n) h = ap (λ (rest : List Seat). reset s ∷ rest) (reset_whole l n (omega arith))
