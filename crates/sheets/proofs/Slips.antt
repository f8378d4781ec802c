-- Closed instances of laws, each false under a slip of `must-fail`, which names it.
use mathlib.Core.List.{[], ◌∷◌}
use mathlib.Core.Path.{◌≡◌, refl}
use Rattle.base.specs.Pick.{pick}
use Rattle.std.specs.Prelude.{Ok}
use Rattle.text.specs.Line.{decimal, digits_within, capital}
use Rattle.sheets.specs.Texts.{setting_text}

-- `sheet_read`: the divisor in decimal, then the LCR byte in two capitals; it reads 0 12 1E
high_digit_comes_first : setting_text (Ok (record { divisor = 12; lcr = 0x1E })) ≡ 48 ∷ 32 ∷ 49 ∷ 50 ∷ 32 ∷ 49 ∷ 69 ∷ 10 ∷ []
unfolding setting_text pick decimal digits_within capital
high_digit_comes_first = refl
