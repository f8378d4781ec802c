use Rattle.text.specs.HexLaws.{digit_found}
use Rattle.lesson.specs.Cause.{begins}
use Rattle.lesson.proofs.faults.Reading.begins.Goals as goal

pub returns : goal.returns
unfolding begins
returns c = rw (c.is_some.ensures, c.digit.ensures.0, digit_found)
