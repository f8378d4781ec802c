-- A test at each of sixteen bytes, or at each number below a bound, as the library's `all` finds it.
use Rattle.std.specs.Prelude.{ℕ, zero, suc, ◌+◌, ◌-◌, ◌<◌, ◌≤◌, Bool, true, false, ◌&&◌, List, [], ◌∷◌, ◌≡◌, refl, leb, length, get_or, drop}
use Rattle.std.specs.List.{list_all, range_with_len}
use Rattle.std.proofs.Common.{⊎_elim, ap, ap₂, sym, ◌∙◌, arith, length-drop, get_or-drop}
use Rattle.std.proofs.lemmas.List.Folds.{list_all_at}
use Rattle.std.proofs.lemmas.List.FromFn.{length-range_with_len, get_or-range_with_len}
use borrow.Author.Tests.{le-leb, leb-true}
use Rattle.base.specs.Every.{every}
use Rattle.base.specs.EveryLaws.{every_each, every_from}
use Rattle.base.specs.PickLaws.{either_way, not_both}
use Rattle.channel_image.specs.Allowed.{sixteen_small}
use Rattle.channel_image.specs.Places.{at}
use Rattle.channel_image.proofs.FieldLaws.{small_at, small_from_lem}

module _ (test : ℕ → Bool) where
  all_pass : (l : List ℕ) → ((k : ℕ) → k < length l → test (get_or l k 0) ≡ true) → list_all test l ≡ true
  all_pass [] each = refl
  all_pass (x ∷ l) each = ap₂ ◌&&◌ (each zero (omega arith)) (all_pass l (λ k below. each (suc k) (omega (arith, below))))

  each_passes : (l : List ℕ) → list_all test l ≡ true → (k : ℕ) → k < length l → test (get_or l k 0) ≡ true
  each_passes l all k below =
      ⊎_elim (λ (h : test (get_or l k 0) ≡ true). h)
      (λ (h : test (get_or l k 0) ≡ false). absurd (not_both all (list_all_at test l k 0 below h)))
      (either_way (test (get_or l k 0)))

same_test : (a b : Bool) → (a ≡ true → b ≡ true) → (b ≡ true → a ≡ true) → a ≡ b
same_test true b to from = sym (to refl)
same_test false true to from = from refl
same_test false false to from = refl

-- of the numbers below m
pub every_all : (m : ℕ) (test : ℕ → Bool) → list_all test (range_with_len 0 m) ≡ every m test
every_all m test =
    same_test _ _
    (λ all. every_from m test (λ k below. at_number m test all k below))
    (λ each. all_pass test (range_with_len 0 m) (λ k below. there m test each k (omega (arith, below, length-range_with_len 0 m))))
  where
    number : (m k : ℕ) → k < m → get_or (range_with_len 0 m) k 0 ≡ k
    number m k below = get_or-range_with_len 0 m k 0 below ∙ omega arith

    at_number : (m : ℕ) (test : ℕ → Bool) → list_all test (range_with_len 0 m) ≡ true → (k : ℕ) → k < m → test k ≡ true
    at_number m test all k below =
        sym (ap test (number m k below)) ∙ each_passes test (range_with_len 0 m) all k (omega (arith, below, length-range_with_len 0 m))

    there : (m : ℕ) (test : ℕ → Bool) → every m test ≡ true → (k : ℕ) → k < m → test (get_or (range_with_len 0 m) k 0) ≡ true
    there m test each k below = ap test (number m k below) ∙ every_each m test each k below

module _ (b : List ℕ) (n most : ℕ) (long : length b ≡ 16) where
  found_small : list_all (λ x. leb x most) (drop n b) ≡ true → (k : ℕ) → n ≤ k → k < 16 → at b (0 + k) ≤ most
  found_small all k past below =
      let inside : k - n < length (drop n b) = omega (arith, length-drop n b, long) in
      let there : at (drop n b) (k - n) ≡ at b (0 + k) = get_or-drop n b (k - n) 0 ∙ ap (at b) (omega (arith, past)) in
      leb-true _ _ (ap (λ (x : ℕ). leb x most) (sym there) ∙ each_passes (λ x. leb x most) (drop n b) all (k - n) inside)

  passes : sixteen_small b 0 n most ≡ true → (k : ℕ) → k < length (drop n b) → leb (get_or (drop n b) k 0) most ≡ true
  passes small k below =
      let inside : n + k < 16 = omega (arith, length-drop n b, long) in
      let there : at (drop n b) k ≡ at b (0 + (n + k)) = get_or-drop n b k 0 ∙ ap (at b) (omega arith) in
      le-leb _ _ (omega (arith, there, small_at b 0 n most small (n + k) (omega arith) inside))

  pub small_all : list_all (λ x. leb x most) (drop n b) ≡ sixteen_small b 0 n most
  small_all =
      same_test _ _ (λ all. small_from_lem b 0 n most (found_small all)) (λ small. all_pass (λ x. leb x most) (drop n b) (passes small))
