use Rattle.base.specs.PickLaws.{pick_true, pick_false}
use borrow.Author.Tests.{le-leb, le-ltb, lt-leb, lt-ltb}
use Rattle.page.specs.Notes.{note_byte}
use Rattle.page.proofs.Page.note_byte.Goals as goal

pub returns-then-shown-is_passed : goal.returns-then-shown-is_passed
unfolding note_byte
returns-then-shown-is_passed c = simp (← c.continued.ensures, ← c.is_passed.ensures, ← c.plain-shown.ensures, c.if-shown-is_passed.true, pick_true)

pub returns-then-self-ge-WIDTH : goal.returns-then-self-ge-WIDTH
unfolding note_byte
returns-then-self-ge-WIDTH c = simp (← c.byte.ensures, ← c.continued-then-self-ge-WIDTH.ensures, ← c.is_passed.ensures, ← c.plain-shown.ensures, le-ltb _ _ c.if-self-ge-WIDTH.true, le-leb _ _ c.if-self-ge-WIDTH.true, c.if-shown-is_passed.false, pick_true, pick_false)

pub returns : goal.returns
unfolding note_byte
returns c = simp (← c.byte-2.ensures, ← c.is_passed.ensures, ← c.plain-shown.ensures, lt-ltb _ _ c.if-self-ge-WIDTH.false, lt-leb _ _ c.if-self-ge-WIDTH.false, c.if-shown-is_passed.false, pick_true, pick_false)
