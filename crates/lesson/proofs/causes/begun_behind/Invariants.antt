use mathlib.Core.Path.{◌≡◌}
use lib.ListN.{drop}
use Rattle.lesson.specs.Fault.{start, behind}
use Rattle.lesson.specs.Cause.{begun_from, begun_in}
use Rattle.lesson.proofs.causes.begun_behind.Given as goal

abbrev pub invariant-loop-i : goal.invariant-loop-i
invariant-loop-i l = record {
  reading : behind start l.text ≡ behind l.reading (drop l.i l.text);
  begun : begun_in l.text ≡ begun_from l.reading l.begun l.i (drop l.i l.text);
}
