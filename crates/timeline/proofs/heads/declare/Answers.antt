use Rattle.timeline.proofs.Behind.{in_one}
use Rattle.page.specs.PageLaws.{put_append}
use Rattle.page.specs.Pages.{put}
use Rattle.timeline.specs.Dump.{declaration}
use Rattle.timeline.proofs.heads.declare.Goals as goal

pub returns : goal.returns
unfolding declaration
returns c = in_one put put_append c.text.ensures (in_one put put_append c.named-name.ensures (in_one put put_append c.text-2.ensures (in_one put put_append c.named.ensures c.text-3.ensures)))
