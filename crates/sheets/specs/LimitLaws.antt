-- A number that is cut to a largest: cut once or at every step, it is the same.
use Rattle.std.specs.Prelude.{ℕ, ◌+◌, ◌*◌, ◌≤◌, true, false, ◌≡◌, ltb}
use Rattle.std.proofs.Common.{⊎_elim, sym, ap, ◌∙◌, arith, mul-le-mul_right, ltb-true, ltb-false, le-ltb}
use Rattle.base.specs.PickLaws.{pick_false, pick_cases, either_way}
use Rattle.sheets.specs.Limits.{up_to}

pub up_to_low : (most n : ℕ) → n ≤ most → up_to most n ≡ n
unfolding up_to
up_to_low most n low = pick_false _ _ _ (le-ltb most n low)

pub up_to_high : (most n : ℕ) → most ≤ n → up_to most n ≡ most
unfolding up_to
up_to_high most n high =
    pick_cases (λ (x : ℕ). x ≡ most) (ltb most n) most n (λ t. omega arith) (λ f. omega (arith, ltb-false most n f))

module _ (most n : ℕ) where
  -- one more digit of a number that is cut already
  pub up_to_more : (base d : ℕ) → 1 ≤ base → up_to most (base * up_to most n + d) ≡ up_to most (base * n + d)
  up_to_more base d some =
      ⊎_elim
      (λ (t : ltb most n ≡ true).
      let high : most ≤ n = omega (arith, ltb-true most n t) in
      ap (λ (x : ℕ). up_to most (base * x + d)) (up_to_high most n high)
      ∙ up_to_high most (base * most + d) (omega (arith, mul-le-mul_right most some))
      ∙ sym (up_to_high most (base * n + d) (omega (arith, mul-le-mul_right n some))))
      (λ (f : ltb most n ≡ false). ap (λ (x : ℕ). up_to most (base * x + d)) (up_to_low most n (ltb-false most n f)))
      (either_way (ltb most n))

  -- cut to a smaller one
  pub up_to_less : (more : ℕ) → most ≤ more → up_to most (up_to more n) ≡ up_to most n
  up_to_less more less =
      ⊎_elim
      (λ (t : ltb more n ≡ true).
      let high : more ≤ n = omega (arith, ltb-true more n t) in
      ap (up_to most) (up_to_high more n high) ∙ up_to_high most more less ∙ sym (up_to_high most n (omega arith)))
      (λ (f : ltb more n ≡ false). ap (up_to most) (up_to_low more n (ltb-false more n f)))
      (either_way (ltb more n))
