use mathlib.Core.List.{[], ◌∷◌}
use Rattle.text.specs.Line.{decimal}
use native.Mathlib.Omega.{arith}
use Rattle.sheets.proofs.Stores.{three_stored}
use Rattle.sheets.proofs.answers.put_figures.Goals as goal

pub returns : goal.returns
returns c = let a = c.args in
    rw (← c.from-byte.ensures, ← c.capital.ensures, ← c.capital-2.ensures)
    (three_stored (48 ∷ 32 ∷ []) (decimal a.setting.divisor) _ _ _ _ _ _ _ _
    c.put_text-from.ensures.0
    c.put_text-from.ensures.1
    c.put_number-at.ensures.0
    c.put_number-at.ensures.1
    c.put_text.ensures.0
    c.put_text.ensures.1
    (omega (arith, c.put_text-from.ensures.0, c.put_number-at.ensures.2, c.put_text.ensures.0)))
