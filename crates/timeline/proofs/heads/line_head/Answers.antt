use Rattle.timeline.proofs.Behind.{in_one}
use Rattle.page.specs.PageLaws.{put_append, put_none}
use Rattle.page.specs.Pages.{put}
use mathlib.Core.Path.{sym}
use Rattle.timeline.specs.Variables.{line_variables}
use Rattle.timeline.specs.Dump.{line_head, scoped, declarations}
use Rattle.timeline.proofs.heads.line_head.Goals as goal

pub returns : goal.returns
unfolding line_head scoped line_variables declarations
returns c = in_one put put_append c.open-begun.ensures (in_one put put_append (in_one put put_append c.declare-level.ensures (in_one put put_append c.declare-request.ensures (in_one put put_append c.declare-service.ensures (in_one put put_append c.declare-mask.ensures (sym (put_none _)))))) c.text.ensures)
