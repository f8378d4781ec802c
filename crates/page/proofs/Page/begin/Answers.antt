use Rattle.page.specs.Pages.{headed}
use Rattle.page.proofs.Page.begin.Goals as goal

pub returns : goal.returns
unfolding headed
returns c = simp (← c.add-page.ensures, ← c.empty.ensures)
