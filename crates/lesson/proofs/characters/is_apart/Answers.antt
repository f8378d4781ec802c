use native.Mathlib.Omega.{arith}
use Rattle.std.proofs.lemmas.Bool.Decides.{nat_tests}
use Rattle.lesson.specs.Text.{apart}
use Rattle.lesson.proofs.characters.is_apart.Goals as goal

pub returns-in_default : goal.returns-in_default
unfolding apart
returns-in_default c = grind (arith, nat_tests)

pub returns-in_default-2 : goal.returns-in_default-2
unfolding apart
returns-in_default-2 c = grind (arith, nat_tests)

pub returns-in-32 : goal.returns-in-32
unfolding apart
returns-in-32 c = grind (arith, nat_tests)

pub returns-in-32-2 : goal.returns-in-32-2
unfolding apart
returns-in-32-2 c = grind (arith, nat_tests)
