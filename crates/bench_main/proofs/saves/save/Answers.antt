use Rattle.std.proofs.Common.{arith, sym}
use lib.Seq.{length-take-le}
use Rattle.bench_main.proofs.saves.save.Goals as goal

pub slice_bounds-put-end-2 : goal.slice_bounds-put-end-2
slice_bounds-put-end-2 c = sym (length-take-le 704 c.save.new.out (omega (arith, c.save.auto)))
