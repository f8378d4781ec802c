-- The examples compute.
use mathlib.Core.Path.{refl}
use Rattle.base.specs.Pick.{pick}
use Rattle.base.specs.Bits.{bit, digit}
use Rattle.text.specs.Line.{digits_within, decimal}
use Rattle.sight.specs.Sights.{look_at}
use Rattle.timeline.specs.Variables.{each, down_from, line_variables, of_seat, seat_variables, scope_variables, variables}
use Rattle.timeline.specs.Dump.{declaration, declarations, scope, scoped, line_head, head_words, seat_head, head_end, whole_head, value_line, change, told, time, first_words, step_words}
use Rattle.timeline.specs.Examples.{Examples}

pub exemplified : Examples
unfolding pick bit digit digits_within decimal look_at each down_from line_variables of_seat seat_variables scope_variables variables declaration declarations scope scoped line_head head_words seat_head head_end whole_head value_line change told time first_words step_words
exemplified = record {
  head = refl;
  first = refl;
  arrives = refl;
  acknowledged = refl;
  quiet = refl;
  read = refl;
  last = refl;
  full = refl;
  unused = refl;
}
