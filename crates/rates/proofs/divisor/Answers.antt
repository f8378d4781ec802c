use Rattle.base.specs.Refusals.{number_of}
use borrow.Author.Rules.{rules}
use Rattle.rates.proofs.divisor.Goals as goal

pub returns-in-None : goal.returns-in-None
unfolding number_of
returns-in-None c = search rules
