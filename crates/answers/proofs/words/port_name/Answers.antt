use Rattle.base.specs.PickLaws.{pick_true, pick_false}
use borrow.Author.Tests.{eq-eqb, ne_eqb}
use Rattle.answers.specs.Came.{port_name}
use Rattle.answers.proofs.words.port_name.Goals as goal

pub returns-then-selected : goal.returns-then-selected
unfolding port_name
returns-then-selected c = simp (c.text.ensures, c.if-selected.true, eq-eqb _ _ c.if-port-eq0.true, pick_true)

pub returns-then-port-eq0 : goal.returns-then-port-eq0
unfolding port_name
returns-then-port-eq0 c = simp (c.text-then-port-eq0.ensures, c.if-selected.false, eq-eqb _ _ c.if-port-eq0.true, pick_true, pick_false)

pub returns : goal.returns
unfolding port_name
returns c = simp (c.text-2.ensures, ne_eqb _ _ c.if-port-eq0.false, pick_false)
