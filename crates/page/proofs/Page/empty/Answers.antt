use Rattle.base.specs.PickLaws.{tests}
use Rattle.page.specs.Pages.{no_page}
use Rattle.page.proofs.Page.empty.Goals as goal

pub returns : goal.returns
unfolding no_page
returns c = search tests
