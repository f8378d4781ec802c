-- Closed instances of laws, each false under a slip of `must-fail`, which names it.
use mathlib.Core.Bool.{Bool, true, false}
use mathlib.Core.Path.{◌≡◌, refl}
use Rattle.base.specs.Pick.{pick}
use Rattle.options.specs.Saves.{due_at}
use Rattle.options.specs.declared.Moment.TheVariants as moment
use Rattle.options.specs.declared.Now.TheVariants as stands
use Rattle.options.specs.declared.Due.{Due}
use Rattle.options.specs.declared.Due.TheVariants.{No, Save, Missed}

abbrev is_missed : Due → Bool
is_missed No = false
is_missed Save = false
is_missed Missed = true

-- `quiet` of `MadeOnce`: a save behind the last record is made there, and not missed at the end
last_record_is_reached : is_missed (due_at (moment.Behind 16) (stands.End 16)) ≡ false
unfolding pick
last_record_is_reached = refl
