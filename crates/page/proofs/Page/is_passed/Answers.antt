use Rattle.std.proofs.Common.{arith}
use Rattle.page.specs.Notes.{passed}
use Rattle.page.proofs.Page.is_passed.Goals as goal

pub returns : goal.returns
unfolding passed
returns c = grind arith
