use Prim.Native.Nat.{◌≤◌}
use mathlib.Core.Path.{sym, ◌∙◌}
use native.Mathlib.Omega.{arith}
use borrow.Author.Tests.{eq-eqb, le-leb, le-ltb, lt-leb, lt-ltb, ne_eqb}
use Rattle.base.specs.PickLaws.{pick_true, pick_false}
use Rattle.text.specs.Hex.{digit as worth}
use Rattle.text.specs.HexLaws.{digit_some, digit_none}
use Rattle.sheets.specs.Numbers.{base, numbers_after}
use Rattle.sheets.specs.OddLaws.{base_small}
use Rattle.sheets.proofs.Numbers.after.Goals as goal
use Rattle.sheets.proofs.Numbers.after.Goals.{in_default-via-in-Some+else-digit-base, in_default-via-in_default}

pub returns-then-self-ge-SPOILT : goal.returns-then-self-ge-SPOILT
unfolding numbers_after
returns-then-self-ge-SPOILT c = simp (le-leb _ _ c.if-self-ge-SPOILT.true, pick_true)

pub returns-then-c-eq32 : goal.returns-then-c-eq32
unfolding numbers_after
returns-then-c-eq32 c = simp (← c.with_blank.ensures, eq-eqb _ _ c.if-c-eq32.true, lt-leb _ _ c.if-self-ge-SPOILT.false, pick_true, pick_false)

pub returns-in-Some : goal.returns-in-Some
unfolding numbers_after
returns-in-Some c =
    let found = digit_some c.args.c c.in-Some.digit (sym c.in-Some.is ∙ c.digit.ensures.0) in
    let less = rw (found.0, c.base.ensures.0) at c.if-digit-base.true in
    simp (lt-leb _ _ c.if-self-ge-SPOILT.false, ne_eqb _ _ c.if-c-eq32.false, lt-ltb _ _ less, ← found.0, c.with_digit.ensures, pick_true, pick_false)

pub returns-in_default : goal.returns-in_default
unfolding numbers_after
returns-in_default c =
    let none : base c.args.self.place ≤ worth c.args.c =
    elim c.in_default.branch [
      | in_default-via-in-Some+else-digit-base w ↦
          omega (arith, (digit_some c.args.c w.in-Some.digit (sym w.in-Some.is ∙ c.digit.ensures.0)).0, w.base.ensures.0)
      | in_default-via-in_default w ↦ omega (arith, digit_none c.args.c (sym w.in_default.is ∙ c.digit.ensures.0), base_small c.args.self.place)
    ] in
    simp (lt-leb _ _ c.if-self-ge-SPOILT.false, ne_eqb _ _ c.if-c-eq32.false, le-ltb _ _ none, ← c.spoilt.ensures, pick_false)
