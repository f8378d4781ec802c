use mathlib.Core.Path.{refl, sym, ◌∙◌}
use native.Mathlib.Omega.{arith}
use lib.Seq.{length-take-le}
use Rattle.setting_lines.proofs.Copies.{line_short, made, put_part, put_none}
use Rattle.setting_lines.proofs.write_line.Goals as goal

pub returns-then-out-length : goal.returns-then-out-length
returns-then-out-length c = put_none _ c.args.out.now (rw c.put_line-length.ensures.0 at c.if-out-length.true)

pub slice_bounds-room-end : goal.slice_bounds-room-end
slice_bounds-room-end c = let a = c.args in
    omega (arith, c.put_line-length.ensures.0, c.put_line-length.array_long, line_short a.rate a.lcr (omega arith))

pub slice_bounds-copy_from_slice-end-3 : goal.slice_bounds-copy_from_slice-end-3
slice_bounds-copy_from_slice-end-3 c = let a = c.args in
    sym (length-take-le _ _ (omega (arith, c.put_line-length.ensures.0, c.put_line-length.array_long, line_short a.rate a.lcr (omega arith))))

pub copy_from_slice-requires : goal.copy_from_slice-requires
copy_from_slice-requires c = let a = c.args in
    length-take-le _ a.out.now c.if-out-length.false
    ∙ sym (length-take-le _ _ (omega (arith, c.put_line-length.ensures.0, c.put_line-length.array_long, line_short a.rate a.lcr (omega arith))))

pub returns : goal.returns
returns c = let a = c.args in
    let p = c.put_line-length in
    put_part _ _ a.out.now _ p.result (made a.rate a.lcr p.result _ p.new.room (omega arith) refl p.ensures.0 p.ensures.1)
    (sym (length-take-le _ _ (omega (arith, p.ensures.0, p.array_long, line_short a.rate a.lcr (omega arith)))))
    c.if-out-length.false (rw c.copy_from_slice.ensures.after)
