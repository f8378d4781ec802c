use Rattle.base.specs.PickLaws.{tests}
use Rattle.sheets.specs.Numbers.{unread}
use Rattle.sheets.proofs.Numbers.is_unread.Goals as goal

pub returns : goal.returns
unfolding unread
returns c = search tests
