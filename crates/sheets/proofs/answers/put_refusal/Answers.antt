use native.Mathlib.Omega.{arith}
use Rattle.base.specs.Refusals.{number_of}
use Rattle.text.specs.Line.{decimal}
use Rattle.sheets.proofs.Stores.{two_stored}
use Rattle.sheets.proofs.answers.put_refusal.Goals as goal

pub returns : goal.returns
returns c = let a = c.args in
    let number = rw (c.from.ensures, c.number.ensures) at c.put_number-at.ensures in
    two_stored (decimal (number_of a.refusal)) a.end.now _ _ _ _ _
    number.0
    number.1
    c.put_text.ensures.0
    c.put_text.ensures.1
    (omega (arith, c.requires, c.put_number-at.ensures.2, c.put_text.ensures.0))
