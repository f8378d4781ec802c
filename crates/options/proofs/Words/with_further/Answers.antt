use Rattle.base.specs.PickLaws.{pick_true, pick_false}
use Rattle.options.proofs.Words.with_further.Goals as goal

pub returns-then-is_word : goal.returns-then-is_word
returns-then-is_word c = simp (← c.once.ensures, ← c.is_word.ensures, c.if-is_word.true, pick_true)

pub returns-then-is_word-2 : goal.returns-then-is_word-2
returns-then-is_word-2 c = simp (← c.awaiting.ensures, ← c.is_word-2.ensures, ← c.is_word.ensures, c.if-is_word-2.true, c.if-is_word.false, pick_true, pick_false)

pub returns-then-is_word-3 : goal.returns-then-is_word-3
returns-then-is_word-3 c = simp (← c.awaiting-then-is_word-3.ensures, ← c.is_word-3.ensures, ← c.is_word-2.ensures, ← c.is_word.ensures, c.if-is_word-3.true, c.if-is_word-2.false, c.if-is_word.false, pick_true, pick_false)

pub returns-then-is_dashed : goal.returns-then-is_dashed
returns-then-is_dashed c = simp (← c.stopped.ensures, ← c.is_dashed.ensures, ← c.is_word-3.ensures, ← c.is_word-2.ensures, ← c.is_word.ensures, c.if-is_dashed.true, c.if-is_word-3.false, c.if-is_word-2.false, c.if-is_word.false, pick_true, pick_false)

pub returns : goal.returns
returns c = simp (← c.once-2.ensures, ← c.is_dashed.ensures, ← c.is_word-3.ensures, ← c.is_word-2.ensures, ← c.is_word.ensures, c.if-is_dashed.false, c.if-is_word-3.false, c.if-is_word-2.false, c.if-is_word.false, pick_false)
