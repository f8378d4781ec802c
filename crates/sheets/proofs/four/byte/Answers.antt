use mathlib.Core.Path.{◌∙◌}
use Rattle.sheets.proofs.Cuts.{as_byte}
use Rattle.sheets.proofs.four.byte.Goals as goal

pub returns : goal.returns
returns c = c.unwrap_or.ensures ∙ as_byte c.try_from.result c.args.n c.try_from.ensures
