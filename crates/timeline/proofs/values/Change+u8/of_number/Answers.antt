use Prim.Native.Nat.{ℕ}
use mathlib.Core.Path.{◌≡◌, refl, ap, sym, ◌∙◌}
use native.Mathlib.Omega.{arith}
use Rattle.base.specs.Bits.{bit}
use Rattle.page.specs.Pieces.{with}
use Rattle.page.specs.PieceLaws.{with_append, with_none}
use Rattle.timeline.specs.Variables.{down_from, bit_name}
use Rattle.timeline.specs.Dump.{change, bit_changes}
use Rattle.timeline.proofs.Bits.{one_down}
use Rattle.timeline.proofs.values.Change+u8.of_number.Goals as goal

pub loop-k-preserved : goal.loop-k-preserved
unfolding bit_changes
loop-k-preserved c = let a = c.args in (
  omega arith,
  one_down with with_append (λ k. change a.self.all (bit k a.self.was) (bit k a.self.is) (bit_name a.letter.now a.n k)) c.loop-k.k (omega arith)
      c.of_bit-said.ensures c.loop-k.invariant.1,
)

pub returns : goal.returns
unfolding bit_changes down_from
returns c = let none : c.loop-k.k ≡ 0 = omega arith in
    let a = c.args in
    sym (with_none _)
    ∙ ap (λ (k : ℕ). with c.loop-k.said (bit_changes a.self.all a.letter.now a.n k a.self.was a.self.is)) (sym none)
    ∙ c.loop-k.invariant.1
