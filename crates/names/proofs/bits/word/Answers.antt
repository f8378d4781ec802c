use Rattle.base.specs.PickLaws.{pick_true, pick_false}
use Rattle.page.specs.PieceLaws.{with_append, with_none}
use Rattle.names.proofs.bits.word.Goals as goal

pub returns-then-set : goal.returns-then-set
returns-then-set c = simp (c.text.ensures, c.if-set.true, pick_true)

pub returns : goal.returns
returns c = simp (c.if-set.false, pick_false, with_append, with_none)
