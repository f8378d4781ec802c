use Rattle.base.specs.PickLaws.{tests}
use Rattle.lesson.specs.Fault.{next}
use Rattle.lesson.proofs.faults.Reading.counted.Goals as goal

pub returns-then-self-lt-LAST_DIGIT : goal.returns-then-self-lt-LAST_DIGIT
unfolding next
returns-then-self-lt-LAST_DIGIT c = search tests

pub returns : goal.returns
unfolding next
returns c = search tests
