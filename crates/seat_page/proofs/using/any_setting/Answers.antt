use Rattle.base.specs.PickLaws.{tests}
use Rattle.seat_page.specs.Using.{some_setting}
use Rattle.seat_page.proofs.using.any_setting.Goals as goal

pub returns : goal.returns
unfolding some_setting
returns c = search tests
