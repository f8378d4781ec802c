use Rattle.lesson.proofs.Walks.{Putting}
use Rattle.lesson.proofs.bytes.put_bytes.Given as goal

abbrev pub invariant-loop-c : goal.invariant-loop-c
invariant-loop-c l = Putting l.text l.initial.out l.out l.comment l.high l.at l.c-index
