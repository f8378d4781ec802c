use Rattle.timeline.proofs.Behind.{in_one, from_start}
use Rattle.page.specs.PageLaws.{put_append}
use Rattle.page.specs.Pages.{put}
use Rattle.timeline.specs.Dump.{declaration, declarations, head_words}
use Rattle.timeline.proofs.heads.head.Goals as goal

pub returns : goal.returns
unfolding head_words declarations declaration
returns c = from_start put put_append c.empty.ensures
    (in_one put put_append c.text-version.ensures (in_one put put_append c.text-begun.ensures (in_one put put_append c.text.ensures c.line_heads.ensures)))
