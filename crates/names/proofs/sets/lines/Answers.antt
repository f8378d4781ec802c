use Rattle.base.specs.PickLaws.{pick_true, pick_false}
use borrow.Author.Tests.{eq-eqb, ne_eqb}
use Rattle.page.specs.PieceLaws.{with_append, with_none}
use Rattle.page.specs.Pieces.{with}
use Rattle.names.specs.Words.{lines_said}
use Rattle.names.proofs.sets.lines.Goals as goal

pub returns-then-set-eq0 : goal.returns-then-set-eq0
unfolding lines_said
returns-then-set-eq0 c = simp (c.text.ensures, eq-eqb _ _ c.if-set-eq0.true, pick_true)

pub returns-then-size_of-eq1 : goal.returns-then-size_of-eq1
unfolding with lines_said
returns-then-size_of-eq1 c = simp (c.numbers.ensures, c.text-then-size_of-eq1.ensures, ← c.size_of.ensures, eq-eqb _ _ c.if-size_of-eq1.true, ne_eqb _ _ c.if-set-eq0.false, pick_true, pick_false, with_append, with_none)

pub returns : goal.returns
unfolding with lines_said
returns c = simp (c.numbers-2.ensures, c.text-2.ensures, ← c.size_of.ensures, ne_eqb _ _ c.if-size_of-eq1.false, ne_eqb _ _ c.if-set-eq0.false, pick_false, with_append, with_none)
