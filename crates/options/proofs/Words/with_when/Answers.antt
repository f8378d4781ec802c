use Rattle.base.specs.PickLaws.{pick_true, pick_false}
use Rattle.options.specs.Words.{with_when}
use Rattle.options.proofs.Words.with_when.Goals as goal

pub returns-then-is_word : goal.returns-then-is_word
unfolding with_when
returns-then-is_word c = simp (← c.once.ensures, ← c.is_word.ensures, c.if-is_word.true, pick_true)

pub returns-then-is_word-2 : goal.returns-then-is_word-2
unfolding with_when
returns-then-is_word-2 c = simp (← c.awaiting.ensures, ← c.is_word-2.ensures, ← c.is_word.ensures, c.if-is_word-2.true, c.if-is_word.false, pick_true, pick_false)

pub returns : goal.returns
unfolding with_when
returns c = simp (← c.stopped.ensures, ← c.is_word-2.ensures, ← c.is_word.ensures, c.if-is_word-2.false, c.if-is_word.false, pick_false)
