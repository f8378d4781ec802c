use Rattle.bench_main.proofs.Blocks.{Between}
use Rattle.bench_main.proofs.input.run.Given as goal

abbrev pub invariant-loop-left : goal.invariant-loop-left
invariant-loop-left l = Between l.input l.out l.course.number l.start l.end l._left
