use mathlib.Core.Path.{◌≡◌, sym, ◌∙◌}
use Rattle.lesson.proofs.Ends.{too_long, found_within, faulted, no_room, handed, byte_count}
use Rattle.lesson.proofs.Stops.{finding_within}
use Rattle.lesson.specs.Text.{bytes_of}
use native.Mathlib.Omega.{arith}
use lib.Seq.{length-take-le}
use lib.ListN.{length}
use Prim.Native.Nat.{◌≤◌, ◌/◌}
use Rattle.lesson.proofs.read.Goals as goal

pub returns-then-text-gt-LONGEST : goal.returns-then-text-gt-LONGEST
returns-then-text-gt-LONGEST c = too_long _ _ c.if-text-gt-LONGEST.true

pub find-finding-requires : goal.find-finding-requires
find-finding-requires c = found_within c.args.text.now c.in-Some.at (sym c.first_fault.ensures ∙ c.in-Some.is)

pub slice_bounds-place_behind-end : goal.slice_bounds-place_behind-end
slice_bounds-place_behind-end c = let inside : c.find-finding.result.at ≤ length c.args.text.now = rw c.find-finding.ensures (finding_within c.args.text.now c.in-Some.at (found_within c.args.text.now c.in-Some.at (sym c.first_fault.ensures ∙ c.in-Some.is))) in
    sym (length-take-le _ _ inside)

pub returns-in-Some : goal.returns-in-Some
returns-in-Some c = rw (c.place_behind-place.ensures, c.find-finding.ensures) (faulted _ _ c.if-text-gt-LONGEST.false _ (sym c.first_fault.ensures ∙ c.in-Some.is))

pub returns-then-out-count : goal.returns-then-out-count
returns-then-out-count c = no_room _ _ c.if-text-gt-LONGEST.false (sym c.first_fault.ensures ∙ c.in_default.is) (omega (arith, c.count_digits-count.ensures, byte_count c.args.text.now))

pub put_bytes-requires : goal.put_bytes-requires
put_bytes-requires c = omega (arith, c.count_digits-count.ensures, byte_count c.args.text.now)

pub returns : goal.returns
returns c = let count : length (bytes_of c.args.text.now) ≡ c.count_digits-count.result / 2 = byte_count c.args.text.now ∙ rw c.count_digits-count.ensures in
    rw (c.put_bytes.ensures, ← count) (handed _ _ c.if-text-gt-LONGEST.false (sym c.first_fault.ensures ∙ c.in_default.is) (omega arith))
