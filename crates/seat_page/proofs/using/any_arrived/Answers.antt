use Rattle.base.specs.PickLaws.{tests}
use Rattle.seat_page.specs.Using.{some_arrived}
use Rattle.seat_page.proofs.using.any_arrived.Goals as goal

pub returns : goal.returns
unfolding some_arrived
returns c = search tests
