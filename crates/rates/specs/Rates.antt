-- The divisor list of document 01, and what is answered from it.
use Rattle.std.specs.Prelude.{ℕ, zero, suc, ◌+◌, ◌-◌, ◌*◌, ◌<◌, List, [], ◌∷◌, ◌++◌, ◌≡◌, eqb, ltb, length, get_or, Result, Ok, Err}
use Rattle.base.specs.Pick.{pick}
use Rattle.base.specs.Refusals.{not_listed_number}
use Rattle.base.specs.declared.Answer.{Answer}
use Rattle.base.specs.declared.Answer.TheVariants.{Divisor, Refused}
use Rattle.base.specs.declared.Refusal.{Refusal}
use Rattle.base.specs.declared.Refusal.TheVariants.{NotListed}
use Rattle.rates.specs.Row.{row_of}

-- "Rates in tenths of a baud: 500, 750, 1100, 1345, 1500, 3000, 6000, 12000, 18000, 20000, 24000, 36000, 48000, 72000, 96000, 192000, 384000"
unfoldable pub everywhere : List ℕ
everywhere = 500 ∷ 750 ∷ 1100 ∷ 1345 ∷ 1500 ∷ 3000 ∷ 6000 ∷ 12000 ∷ 18000 ∷ 20000 ∷ 24000 ∷ 36000 ∷ 48000 ∷ 72000 ∷ 96000 ∷ 192000 ∷ 384000 ∷ []

-- "and 560000 for the first clock only"
unfoldable pub rates_of : ℕ → List ℕ
rates_of zero = everywhere ++ (560000 ∷ [])
rates_of (suc clock) = everywhere

-- "1.8432 MHz: 2304, 1536, 1047, 857, 768, 384, 192, 96, 64, 58, 48, 32, 24, 16, 12, 6, 3, 2."
unfoldable pub first : List ℕ
first = 2304 ∷ 1536 ∷ 1047 ∷ 857 ∷ 768 ∷ 384 ∷ 192 ∷ 96 ∷ 64 ∷ 58 ∷ 48 ∷ 32 ∷ 24 ∷ 16 ∷ 12 ∷ 6 ∷ 3 ∷ 2 ∷ []

-- "2.4576 MHz: 3072, 2048, 1396, 1142, 1024, 512, 256, 128, 85, 77, 64, 43, 32, 21, 16, 8, 4."
unfoldable pub second : List ℕ
second = 3072 ∷ 2048 ∷ 1396 ∷ 1142 ∷ 1024 ∷ 512 ∷ 256 ∷ 128 ∷ 85 ∷ 77 ∷ 64 ∷ 43 ∷ 32 ∷ 21 ∷ 16 ∷ 8 ∷ 4 ∷ []

-- "3.072 MHz: 3840, 2560, 1745, 1428, 1280, 640, 320, 160, 107, 96, 80, 53, 40, 27, 20, 10, 5."
unfoldable pub third : List ℕ
third = 3840 ∷ 2560 ∷ 1745 ∷ 1428 ∷ 1280 ∷ 640 ∷ 320 ∷ 160 ∷ 107 ∷ 96 ∷ 80 ∷ 53 ∷ 40 ∷ 27 ∷ 20 ∷ 10 ∷ 5 ∷ []

-- "Clocks are numbered 0 to 2": no other number has a divisor
unfoldable pub divisors_of : ℕ → List ℕ
divisors_of zero = first
divisors_of (suc zero) = second
divisors_of (suc (suc zero)) = third
divisors_of (suc (suc (suc clock))) = []

-- "1.8432 MHz", "2.4576 MHz" and "3.072 MHz", in hertz
unfoldable pub hertz : ℕ → ℕ
hertz zero = 1843200
hertz (suc zero) = 2457600
hertz (suc (suc zero)) = 3072000
hertz (suc (suc (suc clock))) = 0

-- the divisor in the first row whose rate is the one asked, of a list of rates and the list of their divisors;
-- where there is no such row, "rate or clock not in the divisor list": refusal 10
unfoldable pub look : ℕ → List ℕ → List ℕ → Answer
look rate [] ds = Refused not_listed_number
look rate (r ∷ rs) [] = Refused not_listed_number
look rate (r ∷ rs) (d ∷ ds) = pick (eqb r rate) (Divisor d) (look rate rs ds)

-- "Also public": "the divisor list", asked by a rate in tenths of a baud and the number of a clock
unfoldable pub divisor_of : ℕ → ℕ → Answer
divisor_of rate clock = look rate (rates_of clock) (divisors_of clock)

-- ---- the way back

-- the rate in a row of so many; past them, refusal 10
unfoldable pub rate_in : ℕ → ℕ → List ℕ → Result ℕ Refusal
rate_in row rows rates = pick (ltb row rows) (Ok (get_or rates row 0)) (Err NotListed)

-- ticket 1: "then 10 (also for a divisor not listed at the clock)": the rate in the row of the divisor
unfoldable pub rate_of : ℕ → ℕ → Result ℕ Refusal
rate_of divisor clock = rate_in (row_of divisor (divisors_of clock)) (length (divisors_of clock)) (rates_of clock)

-- ---- the rule

-- "nearest to the clock": how far two numbers are apart
abbrev pub apart : ℕ → ℕ → ℕ
apart a b = (a - b) + (b - a)

-- "Each is the divisor d that brings 16 times d times the rate nearest to the clock; there is no tie."
-- Every other divisor leaves it farther off. The rate is in tenths, so the clock is taken ten times.
abbrev pub Nearest : ℕ → ℕ → ℕ → Type 0
Nearest clock rate d = (other : ℕ) → (other ≡ d → ⊥) → apart (16 * d * rate) (10 * clock) < apart (16 * other * rate) (10 * clock)
