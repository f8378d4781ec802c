use Prim.Native.Nat.{ℕ}
use mathlib.Core.Path.{ap}
use native.Mathlib.Omega.{arith}
use lib.ListN.{length, length-set}
use Rattle.text.specs.Line.{decimal}
use Rattle.text.specs.LineLaws.{after_length}
use Rattle.text.proofs.Stores.{after_sets}
use Rattle.text.proofs.lines.write_after.Goals as goal

pub put_bytes-a-requires : goal.put_bytes-a-requires
put_bytes-a-requires c = let a = c.args in omega (arith, after_length a.front.now a.n a.answer a.output)

pub bounds-out-a : goal.bounds-out-a
bounds-out-a c = let a = c.args in omega (arith, after_length a.front.now a.n a.answer a.output)

pub bounds-out-a-2 : goal.bounds-out-a-2
bounds-out-a-2 c = let a = c.args in simp length-set (omega (arith, after_length a.front.now a.n a.answer a.output))

pub overflow_add-a : goal.overflow_add-a
overflow_add-a c = let a = c.args in omega (arith, after_length a.front.now a.n a.answer a.output)

pub put_byte-b-requires : goal.put_byte-b-requires
put_byte-b-requires c = let a = c.args in rw c.refusal-refusal.ensures (simp length-set (omega (arith, after_length a.front.now a.n a.answer a.output)))

pub put_ending-requires : goal.put_ending-requires
put_ending-requires c = let a = c.args in
    let same : _ = simp length-set at c.put_byte-b.auto.out in
    omega (arith, after_length a.front.now a.n a.answer a.output, ap (λ (x : ℕ). length (decimal x)) c.refusal-refusal.ensures, same)

pub returns : goal.returns
returns c = let a = c.args in (
  omega (arith, after_length a.front.now a.n a.answer a.output, ap (λ (x : ℕ). length (decimal x)) c.refusal-refusal.ensures),
  rw (c.put_ending.ensures.1, c.put_byte-b.ensures.1, c.put_byte-b.ensures.0, c.put_bytes-a.ensures.1, c.put_bytes-a.ensures.0, c.refusal-refusal.ensures, c.value-value.ensures)
      (after_sets _ _ _ _ _ _),
)
