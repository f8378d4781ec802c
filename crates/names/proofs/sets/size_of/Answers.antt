use Rattle.std.proofs.Common.{arith}
use Rattle.names.proofs.Sized.{set_size}
use Rattle.names.proofs.sets.size_of.Goals as goal

pub returns : goal.returns
returns c = set_size c.args.set (omega arith)
