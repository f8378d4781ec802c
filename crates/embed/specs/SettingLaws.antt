-- No number of C is cut where it names a setting; and every line's length fits a byte.
use Rattle.std.specs.Prelude.{ℕ, zero, suc, ◌<◌, ◌≤◌, Bool, true, ◌&&◌, List, [], ◌∷◌, ◌≡◌, refl, ltb, get_or, Result}
use Rattle.std.proofs.Common.{inl, inr, ⊎_elim, ap, sym, subst, ◌∙◌, arith, ltb-true, ltb-false}
use Rattle.base.specs.PickLaws.{both_hold, either_way}
use Rattle.base.specs.declared.Answer.{Answer}
use Rattle.base.specs.declared.Answer.TheVariants.{Divisor, Refused}
use Rattle.base.specs.declared.Refusal.{Refusal}
use Rattle.c_word.specs.Numbers.{as_byte, as_divisor}
use Rattle.c_word.specs.NumberLaws.{up_to_below, up_to_past, told_up_to}
use Rattle.rates.specs.Rates.{first, second, third, divisors_of, divisor_of, rate_of}
use Rattle.rates.proofs.RatesLaws.{answered, clock_refused}
use Rattle.rates.proofs.BackLaws.{rate_none, either}
use Rattle.setting_lines.specs.Fields.{Shape, Sized, line_of, lcr_of}
use Rattle.setting_lines.specs.Guess.{good}
use Rattle.setting_lines.specs.Reading.{setting_by, Reads}
use Rattle.setting_lines.specs.Writing.{Left, left, length_in, written_by, NoShape, Writes}
use Rattle.setting_lines.specs.CaseLaws.{WriteCase, no_shape, unrated, short, lined, write_case}
use Rattle.setting_lines.proofs.LineLaws.{line_short}
use Rattle.setting_lines.proofs.RateLaws.{listed_rated}
use Rattle.setting_lines.specs.ShapeLaws.{lcr_good}
use Rattle.setting_lines.specs.declared.Setting.{Setting}
use Rattle.embed.specs.NumberLaws.{clock_past}

-- ---- the divisor and the clock

abbrev all_below : ℕ → List ℕ → Bool
all_below bound [] = true
all_below bound (n ∷ ns) = ltb n bound && all_below bound ns

each_below : (bound : ℕ) (ns : List ℕ) → all_below bound ns ≡ true → 0 < bound → (k : ℕ) → get_or ns k 0 < bound
each_below bound [] all some k = some
each_below bound (n ∷ ns) all some zero = ltb-true n bound (both_hold (ltb n bound) (all_below bound ns) all).0
each_below bound (n ∷ ns) all some (suc k) = each_below bound ns (both_hold (ltb n bound) (all_below bound ns) all).1 some k

listed_below : (clock : ℕ) → all_below 65535 (divisors_of clock) ≡ true
unfolding divisors_of first second third
listed_below zero = refl
listed_below (suc zero) = refl
listed_below (suc (suc zero)) = refl
listed_below (suc (suc (suc clock))) = refl

-- a divisor from 65535 on is none of any rate
pub past_divisor : (clock divisor rate : ℕ) → 65535 ≤ divisor → divisor_of rate clock ≡ Divisor divisor → ⊥
past_divisor clock divisor rate past listed =
    let at = answered rate clock divisor listed in
    let small = each_below 65535 (divisors_of clock) (listed_below clock) (omega arith) at.row in
    omega (arith, small, at.given)

-- a divisor that is none of any rate has no rate
no_rate : (divisor clock : ℕ) → ((rate : ℕ) → divisor_of rate clock ≡ Divisor divisor → ⊥) → rate_of divisor clock ≡ rate_none
no_rate divisor clock none = ⊎_elim (λ has. absurd (none has.0 has.2)) (λ no. no.0) (either divisor clock)

past_clock : (divisor clock rate : ℕ) → 255 ≤ clock → divisor_of rate clock ≡ Divisor divisor → ⊥
past_clock divisor clock rate past listed =
    let refused : divisor_of rate clock ≡ Refused 10 = clock_refused rate clock (omega arith) in
    let z : ◌≡◌ {A = ℕ} 0 1 = cc in
    omega arith

-- ticket 1: "also for a divisor not listed at the clock": a divisor and a clock of C have the rate that they have as narrower numbers
pub rate_past : (divisor clock : ℕ) → rate_of divisor clock ≡ rate_of (as_divisor divisor) (as_byte clock)
rate_past divisor clock =
    told_up_to 65535 (λ (d : ℕ). rate_of d clock)
    (λ d past. no_rate d clock (λ rate. past_divisor clock d rate past) ∙ sym (no_rate 65535 clock (λ rate. past_divisor clock 65535 rate (omega arith)))) divisor
    ∙ told_up_to 255 (rate_of (as_divisor divisor))
    (λ n past. no_rate _ n (λ rate. past_clock _ n rate past) ∙ sym (no_rate _ 255 (λ rate. past_clock _ 255 rate (omega arith)))) clock

-- ---- the LCR byte

pub shape_below : (s : Shape) → Sized s → lcr_of s < 255
unfolding good
shape_below s sized =
    let small : lcr_of s < 64 = ltb-true _ _ (both_hold (ltb (lcr_of s) 64) _ (lcr_good s sized)).0 in
    omega (arith, small)

-- a byte of a shape is the number that it was
of_shape : (n : ℕ) (s : Shape) → Sized s → as_byte n ≡ lcr_of s → n ≡ lcr_of s
of_shape n s sized is =
    ⊎_elim (λ (below : ltb n 255 ≡ true). sym (up_to_below 255 n (ltb-true n 255 below)) ∙ is)
    (λ past. absurd (omega (arith, shape_below s sized, is, up_to_past 255 n (ltb-false n 255 past))))
    (either_way (ltb n 255))

shape_of : (n : ℕ) → NoShape (as_byte n) → NoShape n
shape_of n none s sized is = none s sized (up_to_below 255 n (subst (λ (m : ℕ). m < 255) (sym is) (shape_below s sized)) ∙ is)

-- ---- both calls, at the narrower numbers

pub reads_past : (line : List ℕ) (clock c : ℕ) (r : Result Setting Refusal) → c ≡ as_byte clock → Reads line c r → Reads line clock r
reads_past line clock c r ec (inl a) =
    inl (record {
      rate = a.rate;
      shape = a.shape;
      rated = a.rated;
      sized = a.sized;
      is = a.is;
      told = a.told ∙ ap (λ (x : Answer). setting_by x (lcr_of a.shape)) (ap (divisor_of a.rate) ec ∙ sym (clock_past a.rate clock));
    })
reads_past line clock c r ec (inr a) = inr a

pub writes_past : (clock divisor lcr c d l : ℕ) (b b' : List ℕ) (w : Result ℕ Refusal) → c ≡ as_byte clock → d ≡ as_divisor divisor → l ≡ as_byte lcr → Writes c d l b b' w
    → Writes clock divisor lcr b b' w
writes_past clock divisor lcr c d l b b' w ec ed el (inl a) =
    inl (record {
      shape = a.shape;
      sized = a.sized;
      is = of_shape lcr a.shape a.sized (sym el ∙ a.is);
      told =
          a.told
          ∙ ap (λ (f : Result ℕ Refusal). written_by f (λ rate. line_of rate a.shape) b) (ap (rate_of d) ec ∙ ap (λ (n : ℕ). rate_of n (as_byte clock)) ed ∙ sym (rate_past divisor clock));
    })
writes_past clock divisor lcr c d l b b' w ec ed el (inr a) = inr (record { other = shape_of lcr (subst NoShape el a.other); told = a.told })

-- ---- the length

-- a line that was written has at most 13 bytes, and one that was not has none
pub written_short : (clock divisor lcr : ℕ) (d d' : List ℕ) (w : Result ℕ Refusal) → Writes clock divisor lcr d d' w → length_in w ≤ 13
written_short clock divisor lcr d d' w writes = by_case (write_case clock divisor lcr d d' w writes)
  where
    long : {l : Left} → left w d' ≡ l → length_in w ≡ length_in l.written
    long is = ap (λ (l : Left). length_in l.written) is

    by_case : WriteCase clock divisor lcr d (left w d') → length_in w ≤ 13
    by_case (no_shape other is) = omega (arith, long is)
    by_case (unrated u is) = omega (arith, long is)
    by_case (short n less is) = omega (arith, long is)
    by_case (lined n fits is) = omega (arith, long is, line_short n.rate n.shape (listed_rated n.rate clock divisor n.listed) n.sized)
