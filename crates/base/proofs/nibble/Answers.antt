use Rattle.base.specs.PickLaws.{tests}
use Rattle.base.specs.Bits.{bits}
use borrow.Author.Rules.{rules}
use Rattle.base.proofs.nibble.Goals as goal

pub returns : goal.returns
unfolding bits
returns c = search (tests, ← c.digit-4.ensures.0, ← c.digit-3.ensures.0, ← c.digit-2.ensures.0, ← c.digit.ensures.0)
