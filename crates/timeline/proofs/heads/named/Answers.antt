use Rattle.timeline.proofs.Behind.{in_one}
use Rattle.page.specs.PageLaws.{put_append}
use Rattle.page.specs.Pages.{put}
use Rattle.timeline.proofs.heads.named.Goals as goal

pub returns : goal.returns
returns c = in_one put put_append c.text.ensures c.number.ensures
