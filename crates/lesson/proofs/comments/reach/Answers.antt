use native.Mathlib.Omega.{arith}
use Rattle.lesson.proofs.Commenting.{reach_on, reach_stop, reach_over}
use Rattle.lesson.proofs.comments.reach.Goals as goal

pub returns-then-due-eq0 : goal.returns-then-due-eq0
returns-then-due-eq0 c =
    let stop = reach_stop c.loop-i.comment c.args.text.now c.loop-i.i c.loop-i.due c.if-due-eq0.true (omega arith) in
    (omega (arith, c.loop-i.invariant, stop), omega arith)

pub loop-i-preserved : goal.loop-i-preserved
loop-i-preserved c =
    let on = reach_on c.loop-i.comment c.args.text.now c.loop-i.i c.loop-i.due (omega arith) c.if-due-eq0.false in
    rw (c.due_behind-due.ensures, c.is_commented-comment.ensures) (omega (arith, c.loop-i.invariant, on))

pub returns : goal.returns
returns c =
    let over = reach_over c.loop-i.comment c.args.text.now c.loop-i.i c.loop-i.due (omega arith) in
    (omega (arith, c.loop-i.invariant, over), omega arith)
