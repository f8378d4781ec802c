use native.Mathlib.Omega.{arith}
use mathlib.Core.List.{[], ◌∷◌}
use Rattle.sheets.proofs.Stores.{three_stored}
use Rattle.sheets.proofs.answers.put_line.Goals as goal

pub returns : goal.returns
returns c = let a = c.args in
    three_stored (48 ∷ 32 ∷ []) a.line.now (10 ∷ []) _ _ _ _ _ _ _
    c.put_text-from.ensures.0
    c.put_text-from.ensures.1
    c.put_text-at.ensures.0
    c.put_text-at.ensures.1
    c.put_text.ensures.0
    c.put_text.ensures.1
    (omega (arith, c.requires, c.put_text-from.ensures.0, c.put_text-at.ensures.0, c.put_text.ensures.0))
