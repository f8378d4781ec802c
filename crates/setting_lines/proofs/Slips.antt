-- Closed instances of laws, each false under a slip of `must-fail`, which names it.
use mathlib.Core.Bool.{true}
use mathlib.Core.List.{[], ◌∷◌}
use mathlib.Core.Path.{◌≡◌, refl}
use Rattle.base.specs.Pick.{pick}
use Rattle.base.specs.Bits.{digit}
use Rattle.text.specs.Line.{decimal, digits_within}
use Rattle.setting_lines.specs.Fields.{E, lcr_of, rate_text}

-- `examples`: the control sheet's own line
even_is_011 : lcr_of (record { parity = E; bits = 7; longer = true }) ≡ 0x1E
unfolding lcr_of digit pick
even_is_011 = refl

-- `examples`: "or 134.5"
half_rate_is_134 : rate_text 1345 ≡ 49 ∷ 51 ∷ 52 ∷ 46 ∷ 53 ∷ []
unfolding rate_text decimal digits_within pick
half_rate_is_134 = refl
