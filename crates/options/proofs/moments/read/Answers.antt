use Rattle.base.specs.PickLaws.{pick_true, pick_false}
use Rattle.options.specs.Moments.{moment_of}
use Rattle.options.proofs.moments.read.Goals as goal

pub returns-then-is_word : goal.returns-then-is_word
unfolding moment_of
returns-then-is_word c = simp (← c.is_word.ensures, c.if-is_word.true, pick_true)

pub returns-then-is_word-2 : goal.returns-then-is_word-2
unfolding moment_of
returns-then-is_word-2 c = simp (← c.is_word-2.ensures, ← c.is_word.ensures, c.if-is_word-2.true, c.if-is_word.false, pick_true, pick_false)

pub returns : goal.returns
unfolding moment_of
returns c = simp (← c.number.ensures, ← c.is_word-2.ensures, ← c.is_word.ensures, c.if-is_word-2.false, c.if-is_word.false, pick_false)
