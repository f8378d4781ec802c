use Rattle.sheets.specs.Numbers.{with_digit}
use Rattle.sheets.proofs.Cuts.{least}
use Rattle.sheets.proofs.Numbers.with_digit.Goals as goal

pub returns : goal.returns
unfolding with_digit
returns c = rw (
  c.min.ensures,
  c.from-4.ensures,
  c.from-3.ensures,
  c.from-2.ensures,
  c.from.ensures,
  c.base.ensures.0,
  c.from-at.ensures,
  least,
)
