use Rattle.std.proofs.Common.{sym}
use borrow.Author.Tests.{le-leb, lt-leb}
use Rattle.base.specs.PickLaws.{pick_true, pick_false}
use Rattle.seat_image.proofs.reading.length.Goals as goal

pub returns-then-version-lt-WITH_TALLIES : goal.returns-then-version-lt-WITH_TALLIES
returns-then-version-lt-WITH_TALLIES c = sym (pick_false _ _ _ (lt-leb _ _ c.if-version-lt-WITH_TALLIES.true))

pub returns-else-version-lt-WITH_TALLIES : goal.returns-else-version-lt-WITH_TALLIES
returns-else-version-lt-WITH_TALLIES c = sym (pick_true _ _ _ (le-leb _ _ c.if-version-lt-WITH_TALLIES.false))
