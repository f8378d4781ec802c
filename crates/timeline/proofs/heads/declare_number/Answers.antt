use Prim.Native.Nat.{ℕ}
use mathlib.Core.Path.{◌≡◌, refl, ap, sym, ◌∙◌}
use native.Mathlib.Omega.{arith}
use Rattle.page.specs.Pages.{put}
use Rattle.page.specs.PageLaws.{put_append, put_none}
use Rattle.timeline.specs.Variables.{down_from, bit_name, bit_word}
use Rattle.timeline.specs.Dump.{declaration, bit_declarations}
use Rattle.timeline.proofs.Bits.{one_down}
use Rattle.timeline.proofs.heads.declare_number.Goals as goal

pub loop-k-preserved : goal.loop-k-preserved
unfolding bit_declarations
loop-k-preserved c = let a = c.args in (
  omega arith,
  one_down put put_append (λ k. declaration (bit_name a.letter.now a.n k) (bit_word a.word.now a.n k)) c.loop-k.k (omega arith)
      c.declare_bit-declared.ensures c.loop-k.invariant.1,
)

pub returns : goal.returns
unfolding bit_declarations down_from
returns c = let none : c.loop-k.k ≡ 0 = omega arith in
    let a = c.args in
    sym (put_none _)
    ∙ ap (λ (k : ℕ). put c.loop-k.declared (bit_declarations a.letter.now a.word.now a.n k)) (sym none)
    ∙ c.loop-k.invariant.1
