use Prim.Native.Nat.{◌<◌, ◌^◌}
use mathlib.Core.Path.{◌≡◌, refl, ap, ◌∙◌}
use native.Mathlib.Omega.{arith}
use lib.ListN.{length, length-set}
use lib.Seq.{length-sets}
use Rattle.text.specs.DecimalLaws.{decimal_length, front_length}
use Rattle.sheets.proofs.Stores.{number_stored}
use Rattle.sheets.proofs.answers.put_number.Goals as goal

pub bounds-own-last : goal.bounds-own-last
bounds-own-last c = let a = c.args in
    let small : a.n < 10 ^ 5 = omega arith in
    let front = rw c.from.ensures at c.put_front-last.ensures in
    omega (arith, front.0, front_length a.n, decimal_length 4 a.n small)

pub overflow_add-own-2 : goal.overflow_add-own-2
overflow_add-own-2 c = let a = c.args in
    let small : a.n < 10 ^ 5 = omega arith in
    let front = rw c.from.ensures at c.put_front-last.ensures in
    omega (arith, front.0, front_length a.n, decimal_length 4 a.n small)

pub slice_bounds-own-end : goal.slice_bounds-own-end
slice_bounds-own-end c = let a = c.args in
    let small : a.n < 10 ^ 5 = omega arith in
    let front = rw c.from.ensures at c.put_front-last.ensures in
    let size : length c.put_front-last.new.text ≡ 20 = ap length front.1 ∙ simp length-sets in
    simp length-set (omega (arith, front.0, front_length a.n, decimal_length 4 a.n small))

pub slice_bounds-put_text-end : goal.slice_bounds-put_text-end
slice_bounds-put_text-end c = let a = c.args in
    let small : a.n < 10 ^ 5 = omega arith in
    let front = rw c.from.ensures at c.put_front-last.ensures in
    rw (number_stored _ _ a.n _ front.0 front.1 refl small)
    (omega (arith, front.0, front_length a.n))

pub put_text-requires : goal.put_text-requires
put_text-requires c = let a = c.args in
    let small : a.n < 10 ^ 5 = omega arith in
    let front = rw c.from.ensures at c.put_front-last.ensures in
    rw (number_stored _ _ a.n _ front.0 front.1 refl small)
    (omega (arith, decimal_length 4 a.n small))

pub returns : goal.returns
returns c = let a = c.args in
    let small : a.n < 10 ^ 5 = omega arith in
    let front = rw c.from.ensures at c.put_front-last.ensures in
    let text : _ = number_stored _ _ a.n _ front.0 front.1 refl small in
    let size : _ = rw text at c.put_text.ensures.0 in
    (size, rw text at c.put_text.ensures.1, omega (arith, size, decimal_length 4 a.n small))
