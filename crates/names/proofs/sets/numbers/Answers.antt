use Rattle.names.specs.Words.{line_list}
use Rattle.names.proofs.sets.numbers.Goals as goal

pub returns : goal.returns
unfolding line_list
returns c = c.named.ensures
