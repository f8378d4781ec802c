-- Closed instances of laws, each false under a slip of `must-fail`, which names it.
use mathlib.Core.Path.{◌≡◌, refl}
use Rattle.base.specs.Pick.{pick}
use Rattle.base.specs.Answers.{refusal_of, value_of}
use Rattle.rates.specs.Rates.{everywhere, rates_of, first, second, third, divisors_of, look, divisor_of}

-- "1.8432 MHz: 2304, 1536, 1047, 857"
fourth_is_857 : value_of (divisor_of 1345 0) ≡ 857
unfolding pick refusal_of value_of everywhere rates_of first second third divisors_of look divisor_of
fourth_is_857 = refl

-- "2.4576 MHz: 3072"
second_clock_is_3072 : value_of (divisor_of 500 1) ≡ 3072
unfolding pick refusal_of value_of everywhere rates_of first second third divisors_of look divisor_of
second_clock_is_3072 = refl

-- "and 560000 for the first clock only"
fastest_is_refused : refusal_of (divisor_of 560000 1) ≡ 10
unfolding pick refusal_of value_of everywhere rates_of first second third divisors_of look divisor_of
fastest_is_refused = refl

-- `shown_first`: its last
fastest_is_2 : value_of (divisor_of 560000 0) ≡ 2
unfolding pick refusal_of value_of everywhere rates_of first second third divisors_of look divisor_of
fastest_is_2 = refl

-- "rate or clock not in the divisor list": refusal 10
unlisted_is_refused : refusal_of (divisor_of 501 0) ≡ 10
unfolding pick refusal_of value_of everywhere rates_of first second third divisors_of look divisor_of
unlisted_is_refused = refl
