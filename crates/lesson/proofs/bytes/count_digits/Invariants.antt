use Prim.Native.Nat.{◌+◌, ◌≤◌}
use mathlib.Core.Path.{◌≡◌}
use lib.ListN.{length}
use Rattle.lesson.specs.Text.{digits_of}
use Rattle.lesson.proofs.Walks.{digits_from}
use Rattle.lesson.proofs.bytes.count_digits.Given as goal

abbrev pub invariant-loop-c : goal.invariant-loop-c
invariant-loop-c l = (l.count ≤ l.c-index) × (length (digits_of l.text) ≡ l.count + length (digits_from l.comment l.text l.c-index))
