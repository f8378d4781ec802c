use Rattle.names.specs.Words.{marks_named}
use Rattle.names.proofs.bits.marks_named.Goals as goal

pub returns : goal.returns
unfolding marks_named
returns c = c.named.ensures
