use mathlib.Core.Path.{◌∙◌}
use Rattle.status.specs.StatusLaws.{line_by_changes}
use Rattle.channel.specs.Status.{msr, line}
use Rattle.channel.proofs.Channel.line.Goals as goal

pub returns : goal.returns
unfolding msr line
returns c = c.line.ensures ∙ line_by_changes _ _ _ _ _
