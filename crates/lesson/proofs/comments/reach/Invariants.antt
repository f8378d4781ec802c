use Prim.Native.Nat.{◌+◌}
use mathlib.Core.Bool.{false}
use mathlib.Core.Path.{◌≡◌}
use lib.ListN.{drop}
use Rattle.lesson.specs.Comments.{reach}
use Rattle.lesson.proofs.comments.reach.Given as goal

abbrev pub invariant-loop-i : goal.invariant-loop-i
invariant-loop-i l = reach false l.digits l.text ≡ l.i + reach l.comment l.due (drop l.i l.text)
