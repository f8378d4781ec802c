use Rattle.std.proofs.Common.{◌-◌}
use Rattle.bench_main.proofs.lessons.+run.Given as goal

abbrev pub decreases-run : goal.decreases-run
decreases-run l = l.lesson - l.place
