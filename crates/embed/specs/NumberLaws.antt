-- No line and no clock of C is cut: one that is past a byte has, as 255, the answer that it has as it is.
use Rattle.std.specs.Prelude.{ℕ, ◌≡◌}
use Rattle.std.proofs.Common.{sym, ◌∙◌, arith}
use Rattle.rates.specs.Rates.{divisor_of}
use Rattle.rates.proofs.RatesLaws.{clock_refused}
use Rattle.controller.specs.declared.Controller.{Controller}
use Rattle.controller.specs.Steps.{placed}
use Rattle.controller.specs.LineLaws.{place_refused}
use Rattle.c_word.specs.Numbers.{as_byte}
use Rattle.c_word.specs.NumberLaws.{told_up_to}

-- "line above 7 gives refusal 1"
pub line_past : (c : Controller) (n : ℕ) → placed c n ≡ placed c (as_byte n)
line_past c = told_up_to 255 (placed c) (λ n past. place_refused c n (omega arith) ∙ sym (place_refused c 255 (omega arith)))

-- "rate or clock not in the divisor list"
pub clock_past : (rate n : ℕ) → divisor_of rate n ≡ divisor_of rate (as_byte n)
clock_past rate = told_up_to 255 (divisor_of rate) (λ n past. clock_refused rate n (omega arith) ∙ sym (clock_refused rate 255 (omega arith)))
