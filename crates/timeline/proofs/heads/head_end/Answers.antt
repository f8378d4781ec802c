use Rattle.timeline.proofs.Behind.{from_start}
use Rattle.page.specs.PageLaws.{put_append}
use Rattle.page.specs.Pages.{put}
use Rattle.timeline.specs.Dump.{head_end}
use Rattle.timeline.proofs.heads.head_end.Goals as goal

pub returns : goal.returns
unfolding head_end
returns c = from_start put put_append c.empty.ensures c.text.ensures
