use Rattle.base.specs.PickLaws.{tests}
use Rattle.seat_page.specs.Using.{some_modem}
use Rattle.seat_page.proofs.using.any_modem.Goals as goal

pub returns : goal.returns
unfolding some_modem
returns c = search tests
