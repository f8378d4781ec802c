use Rattle.std.proofs.Common.{length, ◌≡◌, ◌+◌, ◌≤◌}
use Rattle.std.specs.Slice.Iter.{chunks_rest, chunks_size}
use Rattle.bench_main.proofs.telling.tell.Given as goal

-- what is told of by now, and what is left, are no more than the records' bytes
abbrev pub invariant-loop-one : goal.invariant-loop-one
invariant-loop-one l =
    (chunks_size l.one-iterator ≡ 4)
    × (l.course.number + length (chunks_rest l.one-iterator) ≤ l.initial.course.number + length l.records)
