use Rattle.timeline.proofs.Behind.{in_one}
use Rattle.page.specs.PageLaws.{put_append}
use Rattle.page.specs.Pages.{put}
use Rattle.timeline.specs.Dump.{scope}
use Rattle.timeline.proofs.heads.open.Goals as goal

pub returns : goal.returns
unfolding scope
returns c = in_one put put_append c.text.ensures (in_one put put_append c.named.ensures c.text-2.ensures)
