use mir.Val.{bool_byte}
use Rattle.std.proofs.Common.{Bool, true, false, ◌≡◌, ◌+◌, refl}
use Rattle.base.specs.Pick.{pick}
use Rattle.text.specs.Line.{output_digit}
use Rattle.account.specs.Head.{figures_shown}
use Rattle.account.proofs.heads.figures.Goals as goal

as_output : (o : Bool) → 48 + bool_byte o ≡ output_digit o
unfolding output_digit pick
as_output true = refl
as_output false = refl

pub returns : goal.returns
unfolding figures_shown
returns c = simp (c.text.ensures, c.from.ensures, as_output, c.capital-3.ensures, c.capital-2.ensures, c.capital.ensures)
