use mathlib.Core.Path.{sym, ◌∙◌}
use native.Mathlib.Omega.{arith}
use Rattle.text.specs.HexLaws.{digit_some, digit_none}
use Rattle.options.proofs.Digits.{number_on, number_breaks, number_ends}
use Rattle.options.proofs.moments.counted.Goals as goal

pub returns-in_err-digit : goal.returns-in_err-digit
returns-in_err-digit c = let l = c.loop-c in
    let none = digit_none _ c.in_err-digit.ensures.0 in
    c.from_residual.ensures ∙ sym (l.invariant.1 ∙ number_breaks l.n c.args.word.now l.c-index (omega arith) (omega (arith, none)))

pub returns-then-digit-ge10 : goal.returns-then-digit-ge10
returns-then-digit-ge10 c = let l = c.loop-c in
    let digit = digit_some _ _ c.in_ok-digit.ensures.0 in
    sym (l.invariant.1 ∙ number_breaks l.n c.args.word.now l.c-index (omega arith) (omega (arith, digit.0)))

pub loop-c-preserved : goal.loop-c-preserved
loop-c-preserved c = let l = c.loop-c in
    let digit = digit_some _ _ c.in_ok-digit.ensures.0 in (
      c.with_digit-n.ensures.1,
      l.invariant.1
          ∙ number_on l.n c.args.word.now l.c-index (omega arith) (omega (arith, digit.0))
          ∙ rw (← digit.0, ← c.with_digit-n.ensures.0),
    )

pub returns : goal.returns
returns c = let l = c.loop-c in
    sym (l.invariant.1 ∙ number_ends l.n c.args.word.now l.c-index (omega arith))
