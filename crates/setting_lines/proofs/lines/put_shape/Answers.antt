use Prim.Native.Nat.{◌+◌, ◌%◌}
use mathlib.Core.List.{[], ◌∷◌}
use mathlib.Core.Path.{sym, ◌∙◌}
use native.Mathlib.Omega.{arith}
use Rattle.base.specs.StoreLaws.{sets_append}
use Rattle.setting_lines.specs.Fields.{stop_text}
use Rattle.setting_lines.specs.Guess.{shape_by}
use Rattle.setting_lines.proofs.Texts.{stop_short}
use Rattle.setting_lines.proofs.lines.put_shape.Goals as goal

pub put_text-requires : goal.put_text-requires
put_text-requires c = rw c.stop.ensures (omega (arith, c.put_text-behind.ensures.0, stop_short (5 + c.args.lcr % 4) c.bit.result))

pub returns : goal.returns
unfolding shape_by
returns c = let a = c.args in
    let bits = 5 + a.lcr % 4 in
    let end = rw (c.stop.ensures, c.put_text-behind.ensures.0, c.put_text-behind.ensures.1) at c.put_text.ensures in
    rw (← c.bit.ensures, ← c.letter.ensures) (
      rw end.0 (omega arith),
      end.1 ∙ sym (sets_append (44 ∷ c.letter.result ∷ 44 ∷ (48 + bits) ∷ 44 ∷ []) (stop_text bits c.bit.result) a.room.now a.at),
    )
