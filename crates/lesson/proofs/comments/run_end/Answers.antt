use native.Mathlib.Omega.{arith}
use Rattle.lesson.proofs.Commenting.{end_stopped, end_whole}
use Rattle.lesson.proofs.comments.run_end.Goals as goal

pub returns-in-Some : goal.returns-in-Some
returns-in-Some c = let a = c.args in
    let both = end_stopped a.text.now a.from c.requires a.comment _ c.in-Some.ensures in (both.0, omega arith, both.1)

pub returns-in-None : goal.returns-in-None
returns-in-None c = let a = c.args in (end_whole a.text.now a.from c.requires a.comment c.in-None.ensures, c.requires, omega arith)
