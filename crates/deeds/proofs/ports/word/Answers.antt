use Rattle.base.specs.PickLaws.{pick_true, pick_false}
use borrow.Author.Tests.{ne_eqb}
use native.Mathlib.Omega.{arith}
use Rattle.page.specs.PieceLaws.{with_append}
use Rattle.page.specs.Pieces.{with}
use Rattle.deeds.specs.Done.{word_written}
use Rattle.deeds.proofs.ports.word.Goals as goal

pub returns-in-0 : goal.returns-in-0
unfolding word_written
returns-in-0 c = simp (c.word_at_0.ensures, c.in-0.is, pick_true)

pub returns-in-1 : goal.returns-in-1
unfolding word_written
returns-in-1 c = simp (c.word_at_1.ensures, c.in-1.is, pick_true, pick_false)

pub returns-in_default : goal.returns-in_default
unfolding with word_written
returns-in_default c = simp (c.decimal.ensures, c.text.ensures, ne_eqb c.args.port 0 (λ e. omega arith), ne_eqb c.args.port 1 (λ e. omega arith), pick_false, with_append)
