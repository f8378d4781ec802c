use native.Mathlib.Omega.{arith}
use Rattle.setting_lines.proofs.Copies.{line_short, made}
use Rattle.setting_lines.proofs.lines.made_line.Goals as goal

pub shared_ref_as_front-result : goal.shared_ref_as_front-result
shared_ref_as_front-result c = omega (arith, c.put_line-end.ensures.0, line_short c.args.rate c.args.lcr (omega arith))

pub returns : goal.returns
returns c = let a = c.args in
    made a.rate a.lcr c.put_line-end.result a.room.now c.put_line-end.new.room (omega arith) (omega (arith, c.told-room)) c.put_line-end.ensures.0 c.put_line-end.ensures.1
