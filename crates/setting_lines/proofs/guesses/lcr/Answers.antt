use native.Mathlib.Omega.{arith}
use Rattle.setting_lines.specs.Guess.{lcr_guess, bits_by}
use Rattle.setting_lines.proofs.Supposed.{as_digit, flag_small, code_small}
use Rattle.setting_lines.proofs.guesses.lcr.Goals as goal

pub overflow_mul-result-2 : goal.overflow_mul-result-2
overflow_mul-result-2 c = omega (arith, code_small c.args.parity)

pub overflow_add-result-2 : goal.overflow_add-result-2
overflow_add-result-2 c = omega (arith, flag_small c.args.longer, code_small c.args.parity)

pub returns : goal.returns
unfolding lcr_guess bits_by
returns c = rw (c.code.ensures, c.from.ensures, c.saturating_sub.ensures, as_digit c.args.longer)
