-- A closed instance of a law, false under the slip of must-fail/.
use mathlib.Core.Path.{◌≡◌, refl}
use lib.ListN.{get_or}
use Rattle.base.specs.Pick.{pick}
use Rattle.base.specs.Bits.{bit}
use Rattle.deeds.specs.Done.{word_at0}

-- `selects` of `Examples`: bit 3 makes it OCW3, where bit 4 is clear; by its last character
bit_3_makes_it_ocw3 : get_or (word_at0 0x0B) 3 0 ≡ 51
unfolding pick bit word_at0
bit_3_makes_it_ocw3 = refl
