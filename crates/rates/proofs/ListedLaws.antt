-- The divisor list, asked: what each rate of document 01 is answered at each clock, and that no other rate has an answer.
use Rattle.std.specs.Prelude.{ℕ, zero, suc, ◌≡◌, refl}
use mathlib.Core.List.Memᴰ
use mathlib.Core.List.{List, [], ◌∷◌, map, Memᴰ}
use Rattle.base.specs.Pick.{pick}
use Rattle.base.specs.Answers.{value_of}
use Rattle.base.specs.declared.Answer.TheVariants.{Refused}
use Rattle.rates.specs.Rates.{everywhere, rates_of, first, second, third, divisors_of, look, divisor_of}
use Rattle.rates.proofs.RatesLaws.{refused, Listed}

-- "500, 750, 1100, 1345, 1500, 3000, 6000, 12000, 18000, 20000, 24000, 36000, 48000, 72000, 96000, 192000, 384000, and 560000"
abbrev pub rates : List ℕ
rates = 500 ∷ 750 ∷ 1100 ∷ 1345 ∷ 1500 ∷ 3000 ∷ 6000 ∷ 12000 ∷ 18000 ∷ 20000 ∷ 24000 ∷ 36000 ∷ 48000 ∷ 72000 ∷ 96000 ∷ 192000 ∷ 384000 ∷ 560000 ∷ []

-- the values that a clock's answers to all of them show
abbrev pub shown : ℕ → List ℕ
shown clock = map (λ rate. value_of (divisor_of rate clock)) rates

-- "1.8432 MHz: 2304, 1536, 1047, 857, 768, 384, 192, 96, 64, 58, 48, 32, 24, 16, 12, 6, 3, 2."
pub shown_first : shown 0 ≡ 2304 ∷ 1536 ∷ 1047 ∷ 857 ∷ 768 ∷ 384 ∷ 192 ∷ 96 ∷ 64 ∷ 58 ∷ 48 ∷ 32 ∷ 24 ∷ 16 ∷ 12 ∷ 6 ∷ 3 ∷ 2 ∷ []
unfolding pick value_of everywhere rates_of first divisors_of look divisor_of
shown_first = refl

-- "2.4576 MHz: 3072, 2048, 1396, 1142, 1024, 512, 256, 128, 85, 77, 64, 43, 32, 21, 16, 8, 4.", and the last is refused
pub shown_second : shown 1 ≡ 3072 ∷ 2048 ∷ 1396 ∷ 1142 ∷ 1024 ∷ 512 ∷ 256 ∷ 128 ∷ 85 ∷ 77 ∷ 64 ∷ 43 ∷ 32 ∷ 21 ∷ 16 ∷ 8 ∷ 4 ∷ 0xFFF ∷ []
unfolding pick value_of everywhere rates_of second divisors_of look divisor_of
shown_second = refl

-- "3.072 MHz: 3840, 2560, 1745, 1428, 1280, 640, 320, 160, 107, 96, 80, 53, 40, 27, 20, 10, 5.", and the last is refused
pub shown_third : shown 2 ≡ 3840 ∷ 2560 ∷ 1745 ∷ 1428 ∷ 1280 ∷ 640 ∷ 320 ∷ 160 ∷ 107 ∷ 96 ∷ 80 ∷ 53 ∷ 40 ∷ 27 ∷ 20 ∷ 10 ∷ 5 ∷ 0xFFF ∷ []
unfolding pick value_of everywhere rates_of third divisors_of look divisor_of
shown_third = refl

within : (rate clock : ℕ) → Memᴰ rate (rates_of clock) → Memᴰ rate rates
unfolding everywhere rates_of
within rate zero listed = listed
within rate (suc clock) listed = Memᴰ.append_left (560000 ∷ []) listed

-- every other rate is refused, at every clock
pub no_other_rate : (rate clock : ℕ) → (Memᴰ rate rates → ⊥) → divisor_of rate clock ≡ Refused 10
no_other_rate rate clock other = refused rate clock (λ (l : Listed rate clock). other (within rate clock l.1))
