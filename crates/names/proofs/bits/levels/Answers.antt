use Rattle.base.specs.PickLaws.{pick_true, pick_false}
use borrow.Author.Tests.{le-leb, le-ltb, lt-leb, lt-ltb}
use Rattle.page.specs.PieceLaws.{with_append, with_none}
use Rattle.page.specs.Pieces.{with}
use Rattle.names.specs.Words.{bits_said, levels_said}
use Rattle.names.proofs.bits.levels.Goals as goal

pub returns-then-levels-gt-ALL_LEVELS : goal.returns-then-levels-gt-ALL_LEVELS
unfolding with levels_said
returns-then-levels-gt-ALL_LEVELS c = simp (c.hex.ensures, c.text.ensures, lt-ltb _ _ c.if-levels-gt-ALL_LEVELS.true, lt-leb _ _ c.if-levels-gt-ALL_LEVELS.true, pick_true, pick_false, with_append, with_none)

pub returns : goal.returns
unfolding levels_said bits_said
returns c = simp (c.named_or_none.ensures, le-ltb _ _ c.if-levels-gt-ALL_LEVELS.false, le-leb _ _ c.if-levels-gt-ALL_LEVELS.false, pick_true, pick_false)
