use Rattle.std.proofs.Common.{◌∙◌}
use Rattle.queue.specs.Queue.{marked}
use Rattle.queue.proofs.Marks.{any_marked_lem}
use Rattle.queue.proofs.Queue.any_marked.Goals as goal

pub returns : goal.returns
unfolding marked
returns c = c.marked_among.ensures ∙ any_marked_lem _
