use Prim.Native.Nat.{◌/◌}
use mathlib.Core.Path.{refl}
use native.Mathlib.Omega.{arith}
use borrow.Author.Tests.{eq-eqb}
use Rattle.base.specs.PickLaws.{pick_true}
use Rattle.text.specs.DecimalLaws.{decimal_length, front_length}
use Rattle.setting_lines.specs.Fields.{rate_text}
use Rattle.setting_lines.proofs.Texts.{rate_whole, last_digit}
use Rattle.setting_lines.proofs.lines.put_rate.Goals as goal

pub returns-then-rate-eq1345 : goal.returns-then-rate-eq1345
unfolding rate_text
returns-then-rate-eq1345 c = rw (eq-eqb _ _ c.if-rate-eq1345.true, pick_true) c.put_text.ensures

pub bounds-room-last : goal.bounds-room-last
bounds-room-last c =
    let same = rw c.from.ensures at c.put_front-last.ensures in
    omega (arith, same.0, front_length (c.args.rate / 10), decimal_length 4 (c.args.rate / 10) (omega arith))

pub overflow_add-result : goal.overflow_add-result
overflow_add-result c =
    let same = rw c.from.ensures at c.put_front-last.ensures in
    omega (arith, same.0, front_length (c.args.rate / 10), decimal_length 4 (c.args.rate / 10) (omega arith))

pub returns : goal.returns
returns c =
    let n = c.args.rate / 10 in
    let same = rw c.from.ensures at c.put_front-last.ensures in
    rw (rate_whole c.args.rate c.if-rate-eq1345.false)
    (rw (front_length n, same.0) refl, rw same.1 (last_digit _ n _ same.0))
