-- Where the parts of an image stand, version by version.
use Rattle.std.specs.Prelude.{ℕ, ◌+◌, ◌*◌, ◌<◌, ◌≤◌, true, false, List, ◌⊎◌, ◌≡◌, length}
use Rattle.std.proofs.Common.{inl, inr, ap, ◌∙◌, arith}
use Rattle.base.specs.PickLaws.{pick_true, pick_false, either_way}
use Rattle.seat_image.specs.Read.{has_tallies, length_of}
use Rattle.image.specs.Layout.{version_of, place_in, length_in}

length_with : (version : ℕ) → has_tallies version ≡ true → length_of version ≡ 86
length_with version holds = pick_true _ _ _ holds

length_without : (version : ℕ) → has_tallies version ≡ false → length_of version ≡ 66
length_without version none = pick_false _ _ _ none

pub place_with : (version k : ℕ) → has_tallies version ≡ true → place_in version k ≡ 16 + 86 * k
unfolding place_in
place_with version k holds = ap (λ (n : ℕ). 16 + n * k) (length_with version holds)

pub place_without : (version k : ℕ) → has_tallies version ≡ false → place_in version k ≡ 16 + 66 * k
unfolding place_in
place_without version k none = ap (λ (n : ℕ). 16 + n * k) (length_without version none)

-- a record stands within the image
pub inside : (version k : ℕ) → k < 8 → place_in version k + length_of version ≤ length_in version
inside version k below = by (either_way (has_tallies version))
  where
    by : (has_tallies version ≡ true) ⊎ (has_tallies version ≡ false) → place_in version k + length_of version ≤ length_in version
    by (inl h) = omega (arith, place_with version k h, place_with version 8 h, length_with version h, below)
    by (inr h) = omega (arith, place_without version k h, place_without version 8 h, length_without version h, below)

pub within : (p : List ℕ) (version place k : ℕ) → version ≡ version_of p → place ≡ place_in version k → k < 8 → length_in (version_of p) ≤ length p
    → place ≤ length p
within p version place k same there below long = omega (arith, there, inside version k below, ap length_in same, long)

-- and behind the controller
pub front_inside : (version k : ℕ) → 16 ≤ place_in version k
front_inside version k = by (either_way (has_tallies version))
  where
    by : (has_tallies version ≡ true) ⊎ (has_tallies version ≡ false) → 16 ≤ place_in version k
    by (inl h) = omega (arith, place_with version k h)
    by (inr h) = omega (arith, place_without version k h)

-- a record's length times a seat's number, small enough for any number of the machine
pub few : (version size k : ℕ) → size ≡ length_of version → k ≤ 8 → size * k ≤ 688
few version size k same small = by (either_way (has_tallies version))
  where
    by : (has_tallies version ≡ true) ⊎ (has_tallies version ≡ false) → size * k ≤ 688
    by (inl h) = let e : size * k ≡ 86 * k = ap (λ (n : ℕ). n * k) (same ∙ length_with version h) in omega (arith, e, small)
    by (inr h) = let e : size * k ≡ 66 * k = ap (λ (n : ℕ). n * k) (same ∙ length_without version h) in omega (arith, e, small)
