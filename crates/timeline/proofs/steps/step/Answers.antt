use Rattle.page.specs.Pages.{put}
use Rattle.page.specs.PageLaws.{put_append}
use Rattle.timeline.proofs.Behind.{in_one}
use Rattle.timeline.specs.Dump.{step_words}
use Rattle.timeline.proofs.steps.step.Goals as goal

pub returns : goal.returns
unfolding step_words
returns c = in_one put put_append c.at.ensures c.tell.ensures
