use mathlib.Core.Path.{sym, ap}
use Rattle.options.specs.declared.Awaited.{Awaited}
use Rattle.options.specs.Saves.{moment_next, save_next}
use Rattle.options.proofs.Awaiting.{no_file_next}
use Rattle.options.proofs.Words.save_next.Goals as goal

pub returns-in-File : goal.returns-in-File
unfolding save_next
returns-in-File c = sym (ap (λ (a : Awaited). moment_next a c.args.self.moment) c.in-File.is)

pub returns-in_default : goal.returns-in_default
unfolding save_next
returns-in_default c = no_file_next c.args.self.awaited c.args.self.moment c.in_default.not-File
