use Rattle.base.specs.PickLaws.{pick_true, pick_false}
use borrow.Author.Tests.{ne_eqb}
use native.Mathlib.Omega.{arith}
use Rattle.page.specs.PieceLaws.{with_append}
use Rattle.page.specs.Pieces.{with}
use Rattle.deeds.specs.Done.{controller_read_done}
use Rattle.deeds.proofs.ports.read.Goals as goal

pub returns-in-0 : goal.returns-in-0
unfolding controller_read_done
returns-in-0 c = simp (c.text.ensures, c.empty-nothing.ensures, c.if-selected.true, c.in-0.is, pick_true)

pub returns-in-0-2 : goal.returns-in-0-2
unfolding controller_read_done
returns-in-0-2 c = simp (c.text-in-0-2.ensures, c.empty-nothing.ensures, c.if-selected.false, c.in-0.is, pick_true, pick_false)

pub returns-in-1 : goal.returns-in-1
unfolding controller_read_done
returns-in-1 c = simp (c.text-in-1.ensures, c.empty-nothing.ensures, c.in-1.is, pick_true, pick_false)

pub returns-in_default : goal.returns-in_default
unfolding with controller_read_done
returns-in_default c = simp (c.decimal.ensures, c.text-in_default.ensures, c.empty-nothing.ensures, ne_eqb c.args.port 0 (λ e. omega arith), ne_eqb c.args.port 1 (λ e. omega arith), pick_false, with_append)
