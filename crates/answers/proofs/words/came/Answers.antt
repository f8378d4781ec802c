use Rattle.page.specs.PieceLaws.{with_append, with_none}
use Rattle.answers.proofs.words.came.Goals as goal

pub returns-in-Done : goal.returns-in-Done
returns-in-Done c = simp (c.in-Done.is, c.empty.ensures, with_append, with_none)

pub returns-in-Place : goal.returns-in-Place
returns-in-Place c = simp (c.in-Place.is, c.empty-in-Place.ensures, with_append, with_none)

pub returns-in-Divisor : goal.returns-in-Divisor
returns-in-Divisor c = simp (c.in-Divisor.is, c.empty-in-Divisor.ensures, with_append, with_none)
