use Rattle.std.specs.Prelude.{◌+◌, ◌≡◌, refl}
use denote.Enum.Declared.{tag_of}
use Rattle.base.specs.Refusals.{number_of}
use Rattle.base.specs.contracts.Refusal.{the_type}
use Rattle.base.specs.declared.Refusal.{Refusal}
use Rattle.base.specs.declared.Refusal.TheVariants.{SeatAbove, NumberAbove, KindAbove, Short, NoDivisor, MarksAbove, LevelsAbove, NotReady, NotServed, NotListed, NoSetting, NoRoom, WrongMark, UnknownVersion, NoSuchBench, BeyondWord, ParityUnasked, BreakWithData, TallyFull}
use Rattle.base.proofs.Refusal.number.Goals as goal

-- the place of a refusal in the list, from 0, and one more
counted : (r : Refusal) → tag_of the_type r + 1 ≡ number_of r
unfolding number_of
counted SeatAbove = refl
counted NumberAbove = refl
counted KindAbove = refl
counted Short = refl
counted NoDivisor = refl
counted MarksAbove = refl
counted LevelsAbove = refl
counted NotReady = refl
counted NotServed = refl
counted NotListed = refl
counted NoSetting = refl
counted NoRoom = refl
counted WrongMark = refl
counted UnknownVersion = refl
counted NoSuchBench = refl
counted BeyondWord = refl
counted ParityUnasked = refl
counted BreakWithData = refl
counted TallyFull = refl

pub returns : goal.returns
returns c = counted c.args.self
