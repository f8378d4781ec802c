use Rattle.base.specs.PickLaws.{pick_true, pick_false}
use borrow.Author.Tests.{ne_eqb}
use native.Mathlib.Omega.{arith}
use Rattle.page.specs.PieceLaws.{with_append, with_none}
use Rattle.page.specs.Pieces.{with}
use Rattle.deeds.specs.Done.{other_done}
use Rattle.deeds.proofs.deed.elsewhere.Goals as goal

pub returns-in-5 : goal.returns-in-5
unfolding other_done
returns-in-5 c = simp (c.text.ensures, c.empty.ensures, c.in-5.is, pick_true, pick_false)

pub returns-in-6 : goal.returns-in-6
unfolding other_done
returns-in-6 c = simp (c.read.ensures, c.in-6.is, pick_true, pick_false)

pub returns-in-7 : goal.returns-in-7
unfolding other_done
returns-in-7 c = simp (c.write.ensures, c.in-7.is, pick_true, pick_false)

pub returns-in-8 : goal.returns-in-8
unfolding other_done
returns-in-8 c = simp (c.text-in-8.ensures, c.empty-in-8.ensures, c.in-8.is, pick_true, pick_false)

pub returns-in_default : goal.returns-in_default
unfolding with other_done
returns-in_default c = simp (c.decimal.ensures, c.text-in_default.ensures, c.empty-in_default.ensures, ne_eqb c.args.whole.kind 8 (λ e. omega arith), ne_eqb c.args.whole.kind 7 (λ e. omega arith), ne_eqb c.args.whole.kind 6 (λ e. omega arith), ne_eqb c.args.whole.kind 5 (λ e. omega arith), pick_false, with_append, with_none)
