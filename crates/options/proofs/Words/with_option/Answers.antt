use Rattle.base.specs.PickLaws.{pick_true, pick_false}
use Rattle.options.specs.Words.{option_read}
use Rattle.options.proofs.Words.with_option.Goals as goal

pub returns-then-is_word : goal.returns-then-is_word
unfolding option_read
returns-then-is_word c = simp (← c.awaiting.ensures, ← c.is_word.ensures, c.if-is_word.true, pick_true)

pub returns-then-is_word-2 : goal.returns-then-is_word-2
unfolding option_read
returns-then-is_word-2 c = simp (← c.awaiting-then-is_word-2.ensures, ← c.is_word-2.ensures, ← c.is_word.ensures, c.if-is_word-2.true, c.if-is_word.false, pick_true, pick_false)

pub returns-then-is_word-3 : goal.returns-then-is_word-3
unfolding option_read
returns-then-is_word-3 c = simp (← c.once.ensures, ← c.is_word-3.ensures, ← c.is_word-2.ensures, ← c.is_word.ensures, c.if-is_word-3.true, c.if-is_word-2.false, c.if-is_word.false, pick_true, pick_false)

pub returns-then-is_word-4 : goal.returns-then-is_word-4
unfolding option_read
returns-then-is_word-4 c = simp (← c.once-then-is_word-4.ensures, ← c.is_word-4.ensures, ← c.is_word-3.ensures, ← c.is_word-2.ensures, ← c.is_word.ensures, c.if-is_word-4.true, c.if-is_word-3.false, c.if-is_word-2.false, c.if-is_word.false, pick_true, pick_false)

pub returns : goal.returns
unfolding option_read
returns c = simp (← c.with_further.ensures, ← c.is_word-4.ensures, ← c.is_word-3.ensures, ← c.is_word-2.ensures, ← c.is_word.ensures, c.if-is_word-4.false, c.if-is_word-3.false, c.if-is_word-2.false, c.if-is_word.false, pick_false)
