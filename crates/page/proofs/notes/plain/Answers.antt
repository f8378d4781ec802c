use Rattle.std.proofs.Common.{arith}
use borrow.Author.Tests.{eq-eqb, le-ltb, lt-ltb, ne_eqb}
use Rattle.base.specs.PickLaws.{pick_true, pick_false}
use Rattle.page.specs.Notes.{plain}
use Rattle.page.proofs.notes.plain.Goals as goal

pub returns-in-0-to-31 : goal.returns-in-0-to-31
unfolding plain
returns-in-0-to-31 c = simp (le-ltb c.args.c 32 (omega arith), eq-eqb c.args.c 127 (omega arith), pick_true, pick_false)

pub returns-in-0-to-31-2 : goal.returns-in-0-to-31-2
unfolding plain
returns-in-0-to-31-2 c = simp (lt-ltb c.args.c 32 (omega arith), pick_true)

pub returns-in_default : goal.returns-in_default
unfolding plain
returns-in_default c = simp (le-ltb c.args.c 32 (omega arith), ne_eqb c.args.c 127 (omega arith), pick_false)
