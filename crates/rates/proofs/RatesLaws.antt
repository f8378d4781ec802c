-- What holds of the divisor list, whatever the code does with it.
use Rattle.std.specs.Prelude.{ℕ, zero, suc, ◌+◌, ◌*◌, ◌<◌, ◌≤◌, Bool, not, ◌≡◌, refl, T, ltb, eqb, length, get_or}
use mathlib.Core.List.Memᴰ
use mathlib.Core.List.{List, [], ◌∷◌, Memᴰ}
use Rattle.std.proofs.Common.{⊎_elim, ap, sym, subst, ◌∙◌, add-mul, mul-le-mul_right, not-suc-le-zero, arith, ltb-true, ltb-false, eqb-true, T_not, ltb→lt, lit<}
use Rattle.std.proofs.lemmas.Bool.{eqb-false}
use Rattle.std.proofs.Math.Dec.{eqb_refl}
use Rattle.base.specs.Pick.{pick}
use Rattle.base.specs.PickLaws.{pick_true, pick_false, either_way}
use Rattle.base.specs.Every.{every}
use Rattle.base.specs.EveryLaws.{every_at, equal_at}
use Rattle.base.specs.declared.Answer.TheVariants.{Divisor, Refused}
use Rattle.rates.specs.Rates.{everywhere, rates_of, first, second, third, divisors_of, hertz, look, divisor_of, apart, Nearest}

-- ---- one test over all rows

-- no clock but the three has a row
pub three : (clock k : ℕ) → k < length (divisors_of clock) → clock < 3
unfolding divisors_of
three zero k inside = lit< tt
three (suc zero) k inside = lit< tt
three (suc (suc zero)) k inside = lit< tt
three (suc (suc (suc clock))) k inside = absurd (not-suc-le-zero inside)

-- a test of a clock and a row holds at every row of every clock
abbrev all_rows : (ℕ → ℕ → Bool) → Bool
all_rows test = every 3 (λ clock. every (length (divisors_of clock)) (test clock))

at_row : (test : ℕ → ℕ → Bool) → T (all_rows test) → (clock k : ℕ) → k < length (divisors_of clock) → T (test clock k)
at_row test all clock k inside =
    every_at (length (divisors_of clock)) (test clock)
    (every_at 3 (λ clock. every (length (divisors_of clock)) (test clock)) all clock (three clock k inside)) k inside

-- ---- each divisor is the nearest

-- the rate and the divisor in a row
abbrev pub rate_at : ℕ → ℕ → ℕ
rate_at clock k = get_or (rates_of clock) k 0

abbrev pub divisor_at : ℕ → ℕ → ℕ
divisor_at clock k = get_or (divisors_of clock) k 0

-- less than half of 16 times the rate away from the clock
abbrev near : ℕ → ℕ → Bool
near clock k = ltb (2 * apart (16 * divisor_at clock k * rate_at clock k) (10 * hertz clock)) (16 * rate_at clock k)

all_near : T (all_rows near)
unfolding everywhere rates_of first second third divisors_of hertz
all_near = tt

-- one divisor more or less moves the product by 16 times the rate, which is more than twice the distance
module _ (clock rate d : ℕ) (half : 2 * apart (16 * d * rate) (10 * clock) < 16 * rate) where
  above : (other : ℕ) → d < other → apart (16 * d * rate) (10 * clock) < apart (16 * other * rate) (10 * clock)
  above other more =
      let step : (16 * d + 16) * rate ≤ 16 * other * rate = mul-le-mul_right rate (omega arith) in
      omega (arith, add-mul (16 * d) 16 rate)

  below : (other : ℕ) → other < d → apart (16 * d * rate) (10 * clock) < apart (16 * other * rate) (10 * clock)
  below other less =
      let step : (16 * other + 16) * rate ≤ 16 * d * rate = mul-le-mul_right rate (omega arith) in
      omega (arith, add-mul (16 * other) 16 rate)

  near_nearest : Nearest clock rate d
  near_nearest other differs =
      ⊎_elim (λ more. above other (ltb-true d other more))
      (λ no. below other (let least : other ≤ d = ltb-false d other no in omega arith)) (either_way (ltb d other))

-- the sentence at each entry
pub nearest : (clock k : ℕ) → k < length (divisors_of clock) → Nearest (hertz clock) (rate_at clock k) (divisor_at clock k)
nearest clock k inside = near_nearest (hertz clock) (rate_at clock k) (divisor_at clock k) (ltb→lt _ _ (at_row near all_near clock k inside))

-- ---- the divisors of a clock are distinct

-- no earlier row has the divisor of this one
abbrev new : ℕ → ℕ → Bool
new clock k = every k (λ j. not (eqb (divisor_at clock j) (divisor_at clock k)))

all_new : T (all_rows new)
unfolding everywhere rates_of first second third divisors_of
all_new = tt

earlier : (clock j k : ℕ) → k < length (divisors_of clock) → j < k → divisor_at clock j ≡ divisor_at clock k → ⊥
earlier clock j k inside less same =
    let differ : T (not (eqb (divisor_at clock j) (divisor_at clock k))) =
    every_at k (λ j. not (eqb (divisor_at clock j) (divisor_at clock k))) (at_row new all_new clock k inside) j less in
    T_not (eqb (divisor_at clock j) (divisor_at clock k)) differ (rw same (eqb_refl (divisor_at clock k)))

pub distinct : (clock j k : ℕ) → j < length (divisors_of clock) → k < length (divisors_of clock)
    → divisor_at clock j ≡ divisor_at clock k → j ≡ k
distinct clock j k one other same =
    ⊎_elim (λ less. absurd (earlier clock j k other (ltb-true j k less) same))
    (λ no. ⊎_elim (λ more. absurd (earlier clock k j one (ltb-true k j more) (sym same)))
    (λ neither. let up : j ≤ k = ltb-false k j neither in let down : k ≤ j = ltb-false j k no in omega arith)
    (either_way (ltb k j))) (either_way (ltb j k))

-- ---- what is answered stands in the list

-- a row with this rate and this divisor
pub record Row (rate d : ℕ) (rs ds : List ℕ) : Type 0 where
  pub row : ℕ
  pub inside : row < length ds
  pub asked : get_or rs row 0 ≡ rate
  pub given : get_or ds row 0 ≡ d

next : {rate d r e : ℕ} {rs ds : List ℕ} → Row rate d rs ds → Row rate d (r ∷ rs) (e ∷ ds)
next found = record { row = suc found.row; inside = omega (arith, found.inside); asked = found.asked; given = found.given }

found : (rate d : ℕ) (rs ds : List ℕ) → look rate rs ds ≡ Divisor d → Row rate d rs ds
unfolding look
found rate d [] ds e = let z : ◌≡◌ {A = ℕ} 0 1 = cc in absurd (omega arith)
found rate d (r ∷ rs) [] e = let z : ◌≡◌ {A = ℕ} 0 1 = cc in absurd (omega arith)
found rate d (r ∷ rs) (x ∷ ds) e =
    ⊎_elim
    (λ same.
    let here : Divisor x ≡ Divisor d = sym (pick_true (eqb r rate) (Divisor x) (look rate rs ds) same) ∙ e in
    record { row = 0; inside = omega arith; asked = eqb-true r rate same; given = cc })
    (λ other. next (found rate d rs ds (sym (pick_false (eqb r rate) (Divisor x) (look rate rs ds) other) ∙ e)))
    (either_way (eqb r rate))

pub answered : (rate clock d : ℕ) → divisor_of rate clock ≡ Divisor d → Row rate d (rates_of clock) (divisors_of clock)
unfolding divisor_of
answered rate clock d e = found rate d (rates_of clock) (divisors_of clock) e

pub nearest_answered : (rate clock d : ℕ) → divisor_of rate clock ≡ Divisor d → Nearest (hertz clock) rate d
nearest_answered rate clock d e =
    let at = answered rate clock d e in
    subst (λ (r : ℕ). Nearest (hertz clock) r d) at.asked
    (subst (λ (x : ℕ). Nearest (hertz clock) (rate_at clock at.row) x) at.given (nearest clock at.row at.inside))

pub distinct_answered : (rate other clock d : ℕ) → divisor_of rate clock ≡ Divisor d → divisor_of other clock ≡ Divisor d → rate ≡ other
distinct_answered rate other clock d e f =
    let one = answered rate clock d e in
    let two = answered other clock d f in
    let same : one.row ≡ two.row = distinct clock one.row two.row one.inside two.inside (one.given ∙ sym two.given) in
    sym one.asked ∙ ap (λ (k : ℕ). get_or (rates_of clock) k 0) same ∙ two.asked

-- ---- accepted exactly if listed

pub as_many : (clock : ℕ) → clock < 3 → length (rates_of clock) ≡ length (divisors_of clock)
unfolding everywhere rates_of first second third divisors_of
as_many clock known = equal_at 3 (λ clock. length (rates_of clock)) (λ clock. length (divisors_of clock)) tt clock known

present : (rate : ℕ) (rs ds : List ℕ) → length rs ≡ length ds → Memᴰ rate rs → (d : ℕ) × (look rate rs ds ≡ Divisor d)
unfolding look
present rate [] ds long listed = absurd (Memᴰ.not-nil listed)
present rate (r ∷ rs) [] long listed = absurd (omega arith)
present rate (r ∷ rs) (x ∷ ds) long listed =
    ⊎_elim (λ same. (x, pick_true (eqb r rate) (Divisor x) (look rate rs ds) same))
    (λ other.
    let later = present rate rs ds (omega arith)
    (⊎_elim (λ e. absurd (eqb-false r rate other (sym e))) (λ rest. rest) (Memᴰ.cases_cons listed)) in
    (later.0, pick_false (eqb r rate) (Divisor x) (look rate rs ds) other ∙ later.1))
    (either_way (eqb r rate))

absent : (rate : ℕ) (rs ds : List ℕ) → (Memᴰ rate rs → ⊥) → look rate rs ds ≡ Refused 10
unfolding look
absent rate [] ds unlisted = refl
absent rate (r ∷ rs) [] unlisted = refl
absent rate (r ∷ rs) (x ∷ ds) unlisted =
    ⊎_elim (λ same. absurd (unlisted (Memᴰ.head (sym (eqb-true r rate same)))))
    (λ other. pick_false (eqb r rate) (Divisor x) (look rate rs ds) other ∙ absent rate rs ds (λ rest. unlisted (Memᴰ.tail rest)))
    (either_way (eqb r rate))

pub member : (rs : List ℕ) (k : ℕ) → k < length rs → Memᴰ (get_or rs k 0) rs
member [] k inside = absurd (not-suc-le-zero inside)
member (r ∷ rs) zero inside = Memᴰ.head refl
member (r ∷ rs) (suc k) inside = Memᴰ.tail (member rs k (omega arith))

-- a clock of the three and a rate that it has
abbrev pub Listed : ℕ → ℕ → Type 0
Listed rate clock = (clock < 3) × Memᴰ rate (rates_of clock)

pub accepted : (rate clock : ℕ) → Listed rate clock → (d : ℕ) × (divisor_of rate clock ≡ Divisor d)
unfolding divisor_of
accepted rate clock listed = present rate (rates_of clock) (divisors_of clock) (as_many clock listed.0) listed.1

pub accepted_only : (rate clock d : ℕ) → divisor_of rate clock ≡ Divisor d → Listed rate clock
accepted_only rate clock d e =
    let at = answered rate clock d e in
    let known : clock < 3 = three clock at.row at.inside in
    (known, rw at.asked at (member (rates_of clock) at.row (omega (arith, as_many clock known, at.inside))))

-- "Clocks are numbered 0 to 2"
pub clock_refused : (rate clock : ℕ) → 3 ≤ clock → divisor_of rate clock ≡ Refused 10
unfolding divisor_of divisors_of rates_of everywhere look
clock_refused rate zero above = absurd (not-suc-le-zero above)
clock_refused rate (suc zero) above = absurd (omega arith)
clock_refused rate (suc (suc zero)) above = absurd (omega arith)
clock_refused rate (suc (suc (suc clock))) above = refl

pub refused : (rate clock : ℕ) → (Listed rate clock → ⊥) → divisor_of rate clock ≡ Refused 10
unfolding divisor_of
refused rate clock unlisted =
    ⊎_elim (λ known. absent rate (rates_of clock) (divisors_of clock) (λ has. unlisted (ltb-true clock 3 known, has)))
    (λ no. clock_refused rate clock (ltb-false clock 3 no)) (either_way (ltb clock 3))

-- "and 560000 for the first clock only"
pub fastest : (clock : ℕ) → 0 < clock → divisor_of 560000 clock ≡ Refused 10
unfolding divisor_of divisors_of rates_of everywhere first second third look pick
fastest zero later = absurd (not-suc-le-zero later)
fastest (suc zero) later = refl
fastest (suc (suc zero)) later = refl
fastest (suc (suc (suc clock))) later = refl
