use Rattle.timeline.proofs.Behind.{in_one, from_start}
use Rattle.page.specs.PieceLaws.{with_append, with_none}
use Rattle.page.specs.Pieces.{with}
use mathlib.Core.Path.{sym}
use Rattle.timeline.specs.Variables.{line_variables}
use Rattle.timeline.specs.Dump.{told}
use Rattle.timeline.proofs.steps.Change+Sight.line.Goals as goal

pub returns : goal.returns
unfolding told line_variables
returns c = from_start with with_append c.empty-none.ensures
    (in_one with with_append (simp (c.of.ensures) at c.of_line-level.ensures) (in_one with with_append (simp (c.of-2.ensures) at c.of_line-request.ensures) (in_one with with_append (simp (c.of-3.ensures) at c.of_line-service.ensures) (in_one with with_append (simp (c.of-4.ensures) at c.of_line.ensures) (sym (with_none _))))))
