use Rattle.base.specs.PickLaws.{pick_true, pick_false}
use borrow.Author.Tests.{le-leb, le-ltb, lt-leb, lt-ltb}
use Rattle.page.specs.PieceLaws.{with_append, with_none}
use Rattle.page.specs.Pieces.{with}
use Rattle.names.specs.Words.{register_words}
use Rattle.names.proofs.registers.register.Goals as goal

pub returns-then-number-gt-LAST : goal.returns-then-number-gt-LAST
unfolding with register_words
returns-then-number-gt-LAST c = simp (c.decimal.ensures, c.text.ensures, lt-ltb _ _ c.if-number-gt-LAST.true, lt-leb _ _ c.if-number-gt-LAST.true, pick_true, pick_false, with_append, with_none)

pub returns-then-divisor : goal.returns-then-divisor
unfolding register_words
returns-then-divisor c = simp (c.divisor_named.ensures, c.if-divisor.true, le-ltb _ _ c.if-number-gt-LAST.false, le-leb _ _ c.if-number-gt-LAST.false, pick_true, pick_false)

pub returns : goal.returns
unfolding register_words
returns c = simp (c.named.ensures, c.if-divisor.false, le-ltb _ _ c.if-number-gt-LAST.false, le-leb _ _ c.if-number-gt-LAST.false, pick_true, pick_false)
