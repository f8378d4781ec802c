use mathlib.Core.Path.{sym, ap}
use Rattle.options.specs.Words.{is_option, whole}
use Rattle.options.proofs.Awaiting.{no_option_next}
use Rattle.options.proofs.Words.are_whole.Goals as goal

pub returns-in-Word : goal.returns-in-Word
unfolding whole
returns-in-Word c = sym (ap is_option c.in-Word.is)

pub returns-in_default : goal.returns-in_default
unfolding whole
returns-in_default c = no_option_next c.args.self.awaited c.in_default.not-Word
