-- Rates as a line may have them: every listed one, and none that has more than five characters.
use Rattle.std.specs.Prelude.{ℕ, zero, suc, ◌*◌, ◌/◌, ◌%◌, ◌≤◌, Bool, true, false, ◌&&◌, ◌||◌, ◌≡◌, refl, eqb, leb, length, Ok, Err}
use mathlib.Core.List.Memᴰ
use mathlib.Core.List.{List, [], ◌∷◌, Memᴰ}
use Rattle.std.proofs.Common.{inl, inr, ⊎_elim, sym, ◌∙◌, eqb-true, eq-eqb, ne_eqb, leb-true}
use Rattle.std.proofs.Math.Path.{ap}
use native.Mathlib.Omega.{arith}
use Rattle.base.specs.PickLaws.{pick_true, pick_false, either_way, both_hold}
use Rattle.base.specs.declared.Answer.TheVariants.{Divisor}
use Rattle.base.specs.declared.Refusal.TheVariants.{NotListed}
use Rattle.text.specs.Quoted.{quoted}
use Rattle.text.specs.Line.{decimal}
use Rattle.text.specs.DecimalLaws.{decimal_length, front_length}
use Rattle.rates.specs.Rates.{everywhere, rates_of, divisor_of, rate_of}
use Rattle.rates.proofs.RatesLaws.{accepted_only}
use Rattle.rates.proofs.BackLaws.{either}
use Rattle.setting_lines.specs.Fields.{Rated, rate_text}

-- ---- the text of a rate

module _ (rate : ℕ) where
  pub rated_small : Rated rate → rate ≤ 999990
  rated_small (inl half) = omega arith
  rated_small (inr (n, some, few, is)) = omega arith

  pub text_half : rate ≡ 1345 → rate_text rate ≡ quoted "134.5"
  unfolding rate_text
  text_half half = pick_true _ _ _ (eq-eqb rate 1345 half)

  pub text_whole : (n : ℕ) → rate ≡ 10 * n → rate_text rate ≡ decimal n
  unfolding rate_text
  text_whole n is =
      let other : rate ≡ 1345 → ⊥ = λ half. omega arith in
      let tenth : rate / 10 ≡ n = omega arith in
      pick_false _ _ _ (ne_eqb rate 1345 other) ∙ ap decimal tenth

  -- it has one to five characters
  pub text_short : Rated rate → (1 ≤ length (rate_text rate)) × (length (rate_text rate) ≤ 5)
  text_short (inl half) = rw (text_half half) (omega arith, omega arith)
  text_short (inr (n, some, few, is)) =
      rw (text_whole n is) (omega (arith, front_length n), decimal_length 4 n (omega arith))

-- ---- every listed rate is such a one

abbrev could : ℕ → Bool
could rate = eqb rate 1345 || (eqb (rate % 10) 0 && (leb 10 rate && leb rate 999990))

abbrev all : (ℕ → Bool) → List ℕ → Bool
all test [] = true
all test (n ∷ ns) = test n && all test ns

member_test : (test : ℕ → Bool) (n : ℕ) (ns : List ℕ) → all test ns ≡ true → Memᴰ n ns → test n ≡ true
member_test test n [] every in_List = absurd (Memᴰ.not-nil in_List)
member_test test n (m ∷ ns) every in_List =
    let two = both_hold (test m) (all test ns) every in
    ⊎_elim (λ (e : n ≡ m). ap test e ∙ two.0) (λ rest. member_test test n ns two.1 rest) (Memᴰ.cases_cons in_List)

rated : (rate : ℕ) → could rate ≡ true → Rated rate
rated rate h =
    ⊎_elim (λ (half : eqb rate 1345 ≡ true). inl (eqb-true rate 1345 half))
    (λ (other : eqb rate 1345 ≡ false).
    let h' : (eqb (rate % 10) 0 && (leb 10 rate && leb rate 999990)) ≡ true = rw other at h in
    let whole = both_hold (eqb (rate % 10) 0) _ h' in
    let bounds = both_hold (leb 10 rate) (leb rate 999990) whole.1 in
    let none : rate % 10 ≡ 0 = eqb-true _ _ whole.0 in
    let least : 10 ≤ rate = leb-true _ _ bounds.0 in
    let most : rate ≤ 999990 = leb-true _ _ bounds.1 in
    inr (rate / 10, omega arith, omega arith, omega arith))
    (either_way (eqb rate 1345))

all_could : (clock : ℕ) → all could (rates_of clock) ≡ true
unfolding rates_of everywhere
all_could zero = refl
all_could (suc clock) = refl

pub listed_rated : (rate clock divisor : ℕ) → divisor_of rate clock ≡ Divisor divisor → Rated rate
listed_rated rate clock divisor listed =
    rated rate (member_test could rate (rates_of clock) (all_could clock) (accepted_only rate clock divisor listed).1)

pub found_small : (divisor clock rate : ℕ) → rate_of divisor clock ≡ Ok rate → rate ≤ 999990
found_small divisor clock rate is =
    ⊎_elim
    (λ has.
    let found : Ok has.0 ≡ Ok rate = sym has.1 ∙ is in
    let same : has.0 ≡ rate = cc in
    omega (arith, rated_small has.0 (listed_rated has.0 clock divisor has.2)))
    (λ no. let other : Err NotListed ≡ Ok rate = sym no.0 ∙ is in absurd (cc))
    (either divisor clock)
