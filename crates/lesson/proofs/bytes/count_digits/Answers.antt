use mathlib.Core.Path.{sym, ap, ◌∙◌, ◌≡◌}
use native.Mathlib.Nat.{zero-add}
use native.Mathlib.Omega.{arith}
use lib.ListN.{get_or, length}
use Rattle.std.specs.Prelude.{None}
use Rattle.text.specs.Hex.{digit_of}
use Rattle.base.specs.Pick.{pick}
use Rattle.lesson.specs.Text.{digits_of}
use Rattle.lesson.proofs.Walks.{worth, digit_counted, digit_passed, digits_end}
use Rattle.lesson.proofs.bytes.count_digits.Goals as goal
use Rattle.lesson.proofs.bytes.count_digits.Goals.{then-is_some, else-is_some}

pub loop-c-init : goal.loop-c-init
unfolding digits_of
loop-c-init c = (omega arith, sym (zero-add _))

pub loop-c-preserved : goal.loop-c-preserved
loop-c-preserved c =
    let here = get_or c.args.text.now c.loop-c.c-index 0 in
    let told : c.worth.result ≡ worth c.loop-c.comment here = c.worth.ensures.0 ∙ ap (λ x. pick x None (digit_of here)) c.is_commented-comment.ensures in
    elim c.if-is_some.branch [
      | then-is_some w ↦
          let one = digit_counted c.loop-c.comment c.args.text.now c.loop-c.c-index (omega arith) c.worth.result told (sym c.is_some.ensures ∙ w.if-is_some.true) in
          (omega arith, rw c.is_commented-comment.ensures (omega (arith, c.loop-c.invariant.1, one)))
      | else-is_some w ↦
          let same = digit_passed c.loop-c.comment c.args.text.now c.loop-c.c-index (omega arith) c.worth.result told (sym c.is_some.ensures ∙ w.if-is_some.false) in
          (omega arith, rw c.is_commented-comment.ensures (omega (arith, c.loop-c.invariant.1, ap length same)))
    ]

pub returns : goal.returns
returns c = let none = digits_end c.loop-c.comment c.args.text.now c.loop-c.c-index (omega arith) in
    omega (arith, c.loop-c.invariant.1, ap length none)
