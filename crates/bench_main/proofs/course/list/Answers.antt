use Rattle.std.proofs.Common.{◌≤◌, length, arith}
use Rattle.bench_main.proofs.Blocks.{block_few}
use Rattle.bench_main.proofs.course.list.Goals as goal

pub overflow_add-number : goal.overflow_add-number
overflow_add-number c =
    let few : c.run-ran.result.records ≤ length c.args.records.now = block_few _ _ _ _ _ _ _ c.run-ran.ensures (omega arith) (omega arith) (omega arith) in
    omega arith

pub returns : goal.returns
returns c =
    let few : c.run-ran.result.records ≤ length c.args.records.now = block_few _ _ _ _ _ _ _ c.run-ran.ensures (omega arith) (omega arith) (omega arith) in
    omega arith
