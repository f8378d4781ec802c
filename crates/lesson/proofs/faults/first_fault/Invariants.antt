use mathlib.Core.Path.{◌≡◌}
use lib.ListN.{drop}
use Rattle.lesson.specs.Fault.{fault_of, fault_from}
use Rattle.lesson.proofs.faults.first_fault.Given as goal

abbrev pub invariant-loop-i : goal.invariant-loop-i
invariant-loop-i l = fault_of l.text ≡ fault_from l.reading l.i (drop l.i l.text)
