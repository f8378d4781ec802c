-- The way back from a divisor to its rate: exactly that of the list, so that each way undoes the other.
use Rattle.std.specs.Prelude.{ℕ, suc, ◌<◌, ◌≤◌, true, false, ◌⊎◌, ◌≡◌, refl, eqb, get_or, Result, Ok, Err}
use mathlib.Core.List.Memᴰ
use mathlib.Core.List.{List, [], ◌∷◌, Memᴰ}
use Rattle.std.proofs.Math.Logic.{inl, inr, ⊎_elim}
use Rattle.std.proofs.Common.{ap, sym, subst, ◌∙◌, not-suc-le-zero}
use native.Mathlib.Omega.{arith}
use borrow.Author.Tests.{ltb-true, ltb-false, eqb-true, eqb-false}
use Rattle.std.proofs.Math.Dec.{ltb}
use Rattle.std.proofs.Math.ListN.{length}
use Rattle.base.specs.Pick.{pick}
use Rattle.base.specs.PickLaws.{pick_true, pick_false, either_way}
use Rattle.base.specs.declared.Answer.TheVariants.{Divisor, Refused}
use Rattle.base.specs.declared.Refusal.{Refusal}
use Rattle.base.specs.declared.Refusal.TheVariants.{NotListed}
use Rattle.rates.specs.Rates.{rates_of, divisors_of, hertz, look, divisor_of, rate_in, rate_of, Nearest}
use Rattle.rates.specs.Row.{row_of}
use Rattle.rates.proofs.RatesLaws.{rate_at, divisor_at, nearest, answered, distinct_answered, nearest_answered, accepted, member, three, as_many}

-- a rate that is found, and none
abbrev pub rate_found : ℕ → Result ℕ Refusal
rate_found rate = Ok rate

abbrev pub rate_none : Result ℕ Refusal
rate_none = Err NotListed

-- a number stands in its row
in_row : (n : ℕ) (ms : List ℕ) → row_of n ms < length ms → get_or ms (row_of n ms) 0 ≡ n
unfolding row_of
in_row n [] inside = absurd (not-suc-le-zero inside)
in_row n (m ∷ ms) inside =
    ⊎_elim
    (λ (here : eqb m n ≡ true).
    let row : pick (eqb m n) 0 (suc (row_of n ms)) ≡ 0 = pick_true _ _ _ here in
    ap (λ (k : ℕ). get_or (m ∷ ms) k 0) row ∙ eqb-true m n here)
    (λ (later : eqb m n ≡ false).
    let row : pick (eqb m n) 0 (suc (row_of n ms)) ≡ suc (row_of n ms) = pick_false _ _ _ later in
    ap (λ (k : ℕ). get_or (m ∷ ms) k 0) row ∙ in_row n ms (omega arith))
    (either_way (eqb m n))

member_row : (n : ℕ) (ms : List ℕ) → Memᴰ n ms → row_of n ms < length ms
unfolding row_of
member_row n [] in_List = absurd (Memᴰ.not-nil in_List)
member_row n (m ∷ ms) in_List =
    ⊎_elim
    (λ (here : eqb m n ≡ true). let row : pick (eqb m n) 0 (suc (row_of n ms)) ≡ 0 = pick_true _ _ _ here in omega arith)
    (λ (other : eqb m n ≡ false).
    let row : pick (eqb m n) 0 (suc (row_of n ms)) ≡ suc (row_of n ms) = pick_false _ _ _ other in
    let later : row_of n ms < length ms =
    ⊎_elim (λ (e : n ≡ m). absurd (eqb-false m n other (sym e))) (λ rest. member_row n ms rest) (Memᴰ.cases_cons in_List) in
    omega arith)
    (either_way (eqb m n))

-- "there is no tie": a rate has one nearest divisor
one_nearest : (hz rate d e : ℕ) → Nearest hz rate d → Nearest hz rate e → d ≡ e
one_nearest hz rate d e one other =
    ⊎_elim (λ (same : eqb d e ≡ true). eqb-true d e same)
    (λ (no : eqb d e ≡ false).
    let differ = eqb-false d e no in
    absurd (omega (arith, one e (λ q. differ (sym q)), other d differ)))
    (either_way (eqb d e))

-- the list has a divisor for a rate, or it refuses it by 10
look_either : (rate : ℕ) (rs ds : List ℕ) → ((d : ℕ) × (look rate rs ds ≡ Divisor d)) ⊎ (look rate rs ds ≡ Refused 10)
unfolding look
look_either rate [] ds = inr refl
look_either rate (r ∷ rs) [] = inr refl
look_either rate (r ∷ rs) (d ∷ ds) =
    ⊎_elim (λ (here : eqb r rate ≡ true). inl (d, pick_true _ _ _ here))
    (λ (other : eqb r rate ≡ false).
    let later = pick_false (eqb r rate) (Divisor d) (look rate rs ds) other in
    ⊎_elim (λ has. inl (has.0, later ∙ has.1)) (λ no. inr (later ∙ no)) (look_either rate rs ds))
    (either_way (eqb r rate))

pub divisor_either : (rate clock : ℕ) → ((d : ℕ) × (divisor_of rate clock ≡ Divisor d)) ⊎ (divisor_of rate clock ≡ Refused 10)
unfolding divisor_of
divisor_either rate clock = look_either rate (rates_of clock) (divisors_of clock)

module _ (divisor clock : ℕ) where
  -- the list gives a listed divisor for the rate of its row
  at_own : row_of divisor (divisors_of clock) < length (divisors_of clock)
      → divisor_of (rate_at clock (row_of divisor (divisors_of clock))) clock ≡ Divisor divisor
  at_own inside =
      let k = row_of divisor (divisors_of clock) in
      let known : clock < 3 = three clock k inside in
      let given = accepted (rate_at clock k) clock (known, member (rates_of clock) k (omega (arith, as_many clock known))) in
      let same = one_nearest (hertz clock) (rate_at clock k) given.0 (divisor_at clock k)
      (nearest_answered (rate_at clock k) clock given.0 given.1) (nearest clock k inside) in
      given.1 ∙ ap Divisor (same ∙ in_row divisor (divisors_of clock) inside)

  -- so every divisor of a clock's list is one of a rate
  pub listed_rate : Memᴰ divisor (divisors_of clock) → (rate : ℕ) × (divisor_of rate clock ≡ Divisor divisor)
  listed_rate in_List = (rate_at clock (row_of divisor (divisors_of clock)), at_own (member_row divisor (divisors_of clock) in_List))

  -- a divisor has a rate, for which the list gives it; or it has none, and the list gives it for no rate
  pub either : ((rate : ℕ) × (rate_of divisor clock ≡ rate_found rate) × (divisor_of rate clock ≡ Divisor divisor))
      ⊎ ((rate_of divisor clock ≡ rate_none) × ((rate : ℕ) → divisor_of rate clock ≡ Divisor divisor → ⊥))
  unfolding rate_of rate_in
  either =
      ⊎_elim
      (λ (inside : ltb (row_of divisor (divisors_of clock)) (length (divisors_of clock)) ≡ true).
      inl (rate_at clock (row_of divisor (divisors_of clock)), pick_true _ _ _ inside, at_own (ltb-true _ _ inside)))
      (λ (behind : ltb (row_of divisor (divisors_of clock)) (length (divisors_of clock)) ≡ false).
      inr (
        pick_false _ _ _ behind,
        λ rate listed.
            let at = answered rate clock divisor listed in
            let has = member_row divisor (divisors_of clock) (rw (← at.given) (member (divisors_of clock) at.row at.inside)) in
            let no : length (divisors_of clock) ≤ row_of divisor (divisors_of clock) = ltb-false _ _ behind in omega arith,
      ))
      (either_way (ltb (row_of divisor (divisors_of clock)) (length (divisors_of clock))))

  module _ (rate : ℕ) where
    -- the divisor of a rate leads back to it
    pub rate_again : divisor_of rate clock ≡ Divisor divisor → rate_of divisor clock ≡ rate_found rate
    rate_again listed =
        ⊎_elim (λ has. has.1 ∙ ap rate_found (distinct_answered has.0 rate clock divisor has.2 listed))
        (λ no. absurd (no.1 rate listed)) either

    -- and the rate of a divisor to that
    pub divisor_again : rate_of divisor clock ≡ rate_found rate → divisor_of rate clock ≡ Divisor divisor
    divisor_again is =
        ⊎_elim (λ has. let found : Ok has.0 ≡ Ok rate = sym has.1 ∙ is in let same : has.0 ≡ rate = cc in subst (λ (r : ℕ). divisor_of r clock ≡ Divisor divisor) same has.2)
        (λ no. let other : Err NotListed ≡ Ok rate = sym no.0 ∙ is in absurd (cc)) either
