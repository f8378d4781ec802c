use Rattle.base.specs.PickLaws.{pick_true, pick_false}
use borrow.Author.Tests.{eq-eqb, le-leb, le-ltb, lt-leb, lt-ltb, ne_eqb}
use Rattle.page.specs.PieceLaws.{with_append, with_none}
use Rattle.page.specs.Pieces.{with}
use Rattle.names.specs.Words.{marks_said}
use Rattle.names.proofs.bits.marks.Goals as goal

pub returns-then-marks-gt-ALL_MARKS : goal.returns-then-marks-gt-ALL_MARKS
unfolding with marks_said
returns-then-marks-gt-ALL_MARKS c = simp (c.hex.ensures, c.text.ensures, lt-ltb _ _ c.if-marks-gt-ALL_MARKS.true, lt-leb _ _ c.if-marks-gt-ALL_MARKS.true, pick_true, pick_false, with_append, with_none)

pub returns-then-marks-eq0 : goal.returns-then-marks-eq0
unfolding marks_said
returns-then-marks-eq0 c = simp (eq-eqb _ _ c.if-marks-eq0.true, le-ltb _ _ c.if-marks-gt-ALL_MARKS.false, le-leb _ _ c.if-marks-gt-ALL_MARKS.false, pick_true, pick_false, with_append, with_none)

pub returns : goal.returns
unfolding with marks_said
returns c = simp (c.marks_named.ensures, c.text-2.ensures, ne_eqb _ _ c.if-marks-eq0.false, le-ltb _ _ c.if-marks-gt-ALL_MARKS.false, le-leb _ _ c.if-marks-gt-ALL_MARKS.false, pick_true, pick_false, with_append, with_none)
