use Rattle.std.proofs.Common.{◌≡◌, refl, ap, ◌∙◌, Bool, true, false}
use mir.Val.{bool_byte}
use Rattle.text.specs.Line.{decimal}
use Rattle.page.specs.Pieces.{with}
use Rattle.base.specs.Pick.{pick}
use Rattle.base.specs.Bits.{digit}
use Rattle.timeline.proofs.values.value.Goals as goal

as_digit : (b : Bool) → bool_byte b ≡ digit b
unfolding digit pick
as_digit true = refl
as_digit false = refl

pub returns : goal.returns
returns c = c.decimal.ensures ∙ ap (λ n. with c.args.front (decimal n)) (as_digit c.args.is)
