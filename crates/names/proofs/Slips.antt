-- A closed instance of a law, false under the slip of must-fail/.
use mathlib.Core.Path.{◌≡◌, refl}
use Rattle.base.specs.Pick.{pick}
use Rattle.base.specs.Bits.{bit}
use Rattle.text.specs.Quoted.{quoted}
use Rattle.text.specs.Line.{capital}
use Rattle.page.specs.Pieces.{hex}
use Rattle.names.specs.Words.{bits_said, msr_said}

-- `ended` of `Examples`: the bit is set when RI goes from active to inactive, and not when it comes
ri_ended_and_not_changed : msr_said 0x04 ≡ quoted "MSR 04: RI-ended"
unfolding pick bit capital hex bits_said msr_said
ri_ended_and_not_changed = refl
