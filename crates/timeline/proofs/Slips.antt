-- Closed instances of laws, each false under a slip of `must-fail`, which names it.
use mathlib.Core.Bool.{true, false}
use mathlib.Core.Path.{◌≡◌, refl}
use Rattle.base.specs.Pick.{pick}
use Rattle.base.specs.Bits.{digit}
use Rattle.text.specs.Line.{digits_within, decimal}
use Rattle.text.specs.Quoted.{quoted}
use Rattle.timeline.specs.Dump.{value_line, change}
use Rattle.timeline.specs.Meaning.{name_in, value_in, key, value_behind, viewed, shown_behind}

-- `ShownLast`: where a variable changes, its new value is told
new_value_is_shown : shown_behind (quoted "L20") 0 (change false false true (quoted "L20")) ≡ 1
unfolding pick digit digits_within decimal value_line change name_in value_in key value_behind viewed shown_behind
new_value_is_shown = refl
