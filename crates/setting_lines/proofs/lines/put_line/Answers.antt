use mathlib.Core.Path.{◌∙◌}
use native.Mathlib.Nat.{zero-add}
use native.Mathlib.Omega.{arith}
use lib.ListN.{length-append}
use Rattle.base.specs.StoreLaws.{sets_append}
use Rattle.setting_lines.specs.Fields.{rate_text}
use Rattle.setting_lines.specs.Guess.{shape_by, line_by}
use Rattle.setting_lines.proofs.Texts.{rate_short}
use Rattle.setting_lines.proofs.lines.put_line.Goals as goal

pub put_shape-requires : goal.put_shape-requires
put_shape-requires c = omega (arith, c.put_rate-at.ensures.0, rate_short c.args.rate (omega arith))

pub returns : goal.returns
unfolding line_by
returns c = let first = c.put_rate-at.ensures in
    let a = c.args in (
      c.put_shape.ensures.0 ∙ rw (first.0, length-append (rate_text a.rate) (shape_by a.lcr)),
      c.put_shape.ensures.1 ∙ rw (first.0, first.1, sets_append (rate_text a.rate), zero-add),
    )
