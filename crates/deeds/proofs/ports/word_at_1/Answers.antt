use Rattle.base.specs.PickLaws.{pick_true, pick_false}
use borrow.Author.Tests.{ne_eqb}
use native.Mathlib.Omega.{arith}
use Rattle.deeds.specs.Done.{word_at1}
use Rattle.deeds.proofs.ports.word_at_1.Goals as goal

pub returns-in-1 : goal.returns-in-1
unfolding word_at1
returns-in-1 c = simp (c.text.ensures, c.in-1.is, pick_true, pick_false)

pub returns-in-2 : goal.returns-in-2
unfolding word_at1
returns-in-2 c = simp (c.text-in-2.ensures, c.in-2.is, pick_true, pick_false)

pub returns-in-3 : goal.returns-in-3
unfolding word_at1
returns-in-3 c = simp (c.text-in-3.ensures, c.in-3.is, pick_true, pick_false)

pub returns-in_default : goal.returns-in_default
unfolding word_at1
returns-in_default c = simp (c.text-in_default.ensures, ne_eqb c.args.stage 3 (λ e. omega arith), ne_eqb c.args.stage 2 (λ e. omega arith), ne_eqb c.args.stage 1 (λ e. omega arith), pick_false)
