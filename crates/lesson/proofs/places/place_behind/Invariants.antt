use Prim.Native.Nat.{◌+◌, ◌≤◌}
use mathlib.Core.Path.{◌≡◌}
use lib.ListN.{drop}
use Rattle.lesson.specs.Place.{place_behind, place_from}
use Rattle.lesson.proofs.places.place_behind.Given as goal

abbrev pub invariant-loop-c : goal.invariant-loop-c
invariant-loop-c l = record {
  line : l.place.line ≤ l.c-index + 1;
  column : l.place.column ≤ l.c-index + 1;
  place : place_behind l.text ≡ place_from l.place (drop l.c-index l.text);
}
