use Prim.Native.Nat.{◌+◌}
use Rattle.lesson.proofs.Walks.{place_on, place_end, place_within}
use mathlib.Core.Path.{refl, sym, ◌∙◌}
use Rattle.lesson.specs.Place.{place_behind}
use native.Mathlib.Omega.{arith}
use Rattle.lesson.proofs.places.place_behind.Goals as goal

pub loop-c-init : goal.loop-c-init
unfolding place_behind
loop-c-init c = record { line = omega arith; column = omega arith; place = refl }

pub loop-c-preserved : goal.loop-c-preserved
loop-c-preserved c =
    let bounds = place_within c.loop-c.place _ (c.loop-c.c-index + 1) c.loop-c.invariant.line c.loop-c.invariant.column (omega arith) in
    record {
      line = rw c.onward-place.ensures bounds.0;
      column = rw c.onward-place.ensures bounds.1;
      place = c.loop-c.invariant.place ∙ place_on c.loop-c.place c.args.text.now c.loop-c.c-index (omega arith) ∙ rw (← c.onward-place.ensures);
    }

pub returns : goal.returns
returns c = sym (c.loop-c.invariant.place ∙ place_end c.loop-c.place c.args.text.now c.loop-c.c-index (omega arith))
