-- The search for a row, and what the row found says of the look-up.
use Rattle.std.specs.Prelude.{Option, Some, None, Ok, Err, MatchOption, is_some, unwrap_or, option_map, option_copied, position}
use Rattle.std.specs.List.{position_or_len}
use denote.Ref.{Bor}
use Rattle.std.proofs.lemmas.List.Recursion.{is_position_or_len}
use Rattle.std.proofs.lemmas.Option.{none-some}
use Prim.Native.Nat.{ℕ, zero, suc, ◌<◌, ◌≤◌}
use mathlib.Core.List.{List, [], ◌∷◌}
use mathlib.Core.Bool.{Bool, true, false, cond}
use mathlib.Core.Logic.{⊎_elim}
use mathlib.Core.Path.{◌≡◌, refl, ap, sym, ◌∙◌}
use native.Mathlib.Nat.{not-suc-le-zero}
use native.Mathlib.Omega.{arith}
use Rattle.std.proofs.Math.Numerals.{one-add}
use borrow.Author.Tests.{ltb-true, ltb-false, lt-ltb, le-ltb}
use lib.Dec.{eqb, ltb, lit≤}
use lib.ListN.{length, get_or, get_or-append}
use Rattle.base.specs.Pick.{pick}
use Rattle.base.specs.PickLaws.{pick_true, pick_false, either_way}
use Rattle.base.specs.declared.Answer.TheVariants.{Divisor, Refused}
use Rattle.base.specs.declared.Refusal.TheVariants.{NotListed}
use Rattle.rates.specs.Rates.{everywhere, rates_of, first, second, third, divisors_of, look, divisor_of, rate_in, rate_of}
use Rattle.rates.specs.Row.{row_of}

-- a choice by a test is the library's
chosen : {A : Type 0} (b : Bool) (x y : A) → pick b x y ≡ cond b x y
unfolding pick
chosen true x y = refl
chosen false x y = refl

-- the row as the code looks for it
place_row : (n : ℕ) (ms : List ℕ) → row_of n ms ≡ position_or_len (λ m. eqb m n) ms
unfolding row_of
place_row n ms = is_position_or_len (row_of n) (λ m. eqb m n) refl (λ m ms. rw (one-add (row_of n ms)) (chosen (eqb m n) 0 (suc (row_of n ms)))) ms

module _ (n : ℕ) (ms : List ℕ) where
  looked : position (λ m. eqb m n) ms ≡ cond (ltb (row_of n ms) (length ms)) (Some (row_of n ms)) None
  looked = rw (place_row n ms)

  pub row_found : (i : ℕ) → position (λ m. eqb m n) ms ≡ Some i → (i ≡ row_of n ms) × (i < length ms)
  row_found i is =
      ⊎_elim
      (λ (t : ltb (row_of n ms) (length ms) ≡ true).
      let same : Some (row_of n ms) ≡ Some i = sym (rw t at looked) ∙ is in
      let at : i ≡ row_of n ms = cc in (at, omega (arith, ltb-true _ _ t)))
      (λ (f : ltb (row_of n ms) (length ms) ≡ false).
      let none : None ≡ Some i = sym (rw f at looked) ∙ is in absurd (none-some i none))
      (either_way (ltb (row_of n ms) (length ms)))

  pub row_missing : position (λ m. eqb m n) ms ≡ None → length ms ≤ row_of n ms
  row_missing is =
      ⊎_elim
      (λ (t : ltb (row_of n ms) (length ms) ≡ true).
      let some : Some (row_of n ms) ≡ None = sym (rw t at looked) ∙ is in absurd (none-some _ (sym some)))
      (λ (f : ltb (row_of n ms) (length ms) ≡ false). ltb-false _ _ f)
      (either_way (ltb (row_of n ms) (length ms)))

pub look_found : (rate : ℕ) (rs ds : List ℕ) → length ds ≤ length rs → row_of rate rs < length ds
    → look rate rs ds ≡ Divisor (get_or ds (row_of rate rs) 0)
unfolding look row_of
look_found rate [] ds long inside = absurd (omega arith)
look_found rate (r ∷ rs) [] long inside = absurd (not-suc-le-zero inside)
look_found rate (r ∷ rs) (d ∷ ds) long inside =
    ⊎_elim
    (λ same.
    let row : pick (eqb r rate) 0 (suc (row_of rate rs)) ≡ 0 = pick_true (eqb r rate) 0 (suc (row_of rate rs)) same in
    pick_true (eqb r rate) (Divisor d) (look rate rs ds) same ∙ ap (λ (k : ℕ). Divisor (get_or (d ∷ ds) k 0)) (sym row))
    (λ other.
    let row : pick (eqb r rate) 0 (suc (row_of rate rs)) ≡ suc (row_of rate rs) = pick_false (eqb r rate) 0 (suc (row_of rate rs)) other in
    pick_false (eqb r rate) (Divisor d) (look rate rs ds) other
    ∙ look_found rate rs ds (omega arith) (omega arith)
    ∙ ap (λ (k : ℕ). Divisor (get_or (d ∷ ds) k 0)) (sym row))
    (either_way (eqb r rate))

pub look_missing : (rate : ℕ) (rs ds : List ℕ) → length ds ≤ row_of rate rs → look rate rs ds ≡ Refused 10
unfolding look row_of
look_missing rate [] ds behind = refl
look_missing rate (r ∷ rs) [] behind = refl
look_missing rate (r ∷ rs) (d ∷ ds) behind =
    ⊎_elim
    (λ same.
    let row : pick (eqb r rate) 0 (suc (row_of rate rs)) ≡ 0 = pick_true (eqb r rate) 0 (suc (row_of rate rs)) same in
    absurd (omega arith))
    (λ other.
    let row : pick (eqb r rate) 0 (suc (row_of rate rs)) ≡ suc (row_of rate rs) = pick_false (eqb r rate) 0 (suc (row_of rate rs)) other in
    pick_false (eqb r rate) (Divisor d) (look rate rs ds) other ∙ look_missing rate rs ds (omega arith))
    (either_way (eqb r rate))

-- a rate that another clock lacks stands behind all that it has, so every clock can be looked up by the first clock's rates
by_first : (rate clock : ℕ) → look rate (rates_of 0) (divisors_of clock) ≡ divisor_of rate clock
unfolding divisor_of rates_of divisors_of everywhere second third look
by_first rate zero = refl
by_first rate (suc zero) = refl
by_first rate (suc (suc zero)) = refl
by_first rate (suc (suc (suc clock))) = refl

pub no_longer : (clock : ℕ) → length (divisors_of clock) ≤ length (rates_of 0)
unfolding rates_of divisors_of everywhere first second third
no_longer zero = lit≤ tt
no_longer (suc zero) = lit≤ tt
no_longer (suc (suc zero)) = lit≤ tt
no_longer (suc (suc (suc clock))) = lit≤ tt

module _ (rate clock i : ℕ) (row : i ≡ row_of rate (rates_of 0)) where
  pub given_at : i < length (divisors_of clock) → Divisor (get_or (divisors_of clock) i 0) ≡ divisor_of rate clock
  given_at inside =
      ap (λ (k : ℕ). Divisor (get_or (divisors_of clock) k 0)) row
      ∙ sym (look_found rate (rates_of 0) (divisors_of clock) (no_longer clock) (omega arith))
      ∙ by_first rate clock

  pub refused_at : length (divisors_of clock) ≤ i → Refused 10 ≡ divisor_of rate clock
  refused_at behind = sym (look_missing rate (rates_of 0) (divisors_of clock) (omega arith)) ∙ by_first rate clock

-- a rate that is in no row
pub refused_by : (rate clock : ℕ) → length (rates_of 0) ≤ row_of rate (rates_of 0) → Refused 10 ≡ divisor_of rate clock
refused_by rate clock behind =
    sym (look_missing rate (rates_of 0) (divisors_of clock) (omega (arith, no_longer clock))) ∙ by_first rate clock

-- what the divisors of a clock have in the row of the rate, as an answer
pub listed_by : (rate clock i : ℕ) (o : Option (Bor ℕ)) → i ≡ row_of rate (rates_of 0)
    → is_some o ≡ ltb i (length (divisors_of clock)) → unwrap_or (option_map (λ (x : Bor ℕ). x.now) o) 0 ≡ get_or (divisors_of clock) i 0
    → MatchOption (option_copied o) (divisor_of rate clock ≡ Refused 10) (λ d. divisor_of rate clock ≡ Divisor d)
listed_by rate clock i None row has got = sym (refused_at rate clock i row (ltb-false _ _ (sym has)))
listed_by rate clock i (Some x) row has got = sym (given_at rate clock i row (ltb-true _ _ (sym has))) ∙ ap Divisor (sym got)

-- no clock but the three has a divisor
pub no_divisors : (clock : ℕ) → 3 ≤ clock → divisors_of clock ≡ []
unfolding divisors_of
no_divisors zero above = absurd (not-suc-le-zero above)
no_divisors (suc zero) above = absurd (omega arith)
no_divisors (suc (suc zero)) above = absurd (omega arith)
no_divisors (suc (suc (suc clock))) above = refl

-- ---- the way back

-- where a clock has a row, its rate there is the first clock's
same_rates : (clock k : ℕ) → k < length (divisors_of clock) → get_or (rates_of 0) k 0 ≡ get_or (rates_of clock) k 0
unfolding rates_of divisors_of everywhere second third
same_rates zero k inside = refl
same_rates (suc zero) k inside = get_or-append everywhere (560000 ∷ []) 0 k inside
same_rates (suc (suc zero)) k inside = get_or-append everywhere (560000 ∷ []) 0 k inside
same_rates (suc (suc (suc clock))) k inside = absurd (not-suc-le-zero inside)

module _ (divisor clock : ℕ) where
  pub rate_given : (row : ℕ) → row ≡ row_of divisor (divisors_of clock) → row < length (divisors_of clock)
      → Ok (get_or (rates_of 0) row 0) ≡ rate_of divisor clock
  unfolding rate_of rate_in
  rate_given row is inside =
      rw (same_rates clock row inside, is)
      (sym (pick_true _ _ _ (lt-ltb (row_of divisor (divisors_of clock)) (length (divisors_of clock)) (omega arith))))

  pub rate_refused : length (divisors_of clock) ≤ row_of divisor (divisors_of clock) → Err NotListed ≡ rate_of divisor clock
  unfolding rate_of rate_in
  rate_refused behind = sym (pick_false _ _ _ (le-ltb _ _ behind))
