-- The examples compute.
use mathlib.Core.Path.{refl}
use Rattle.base.specs.Pick.{pick}
use Rattle.base.specs.Bits.{bit, digit}
use Rattle.text.specs.Line.{digits_within, decimal, capital}
use Rattle.page.specs.Pieces.{hex}
use Rattle.names.specs.Words.{later_words, refusal_words, name_read, name_written, name_of, name_at_divisor, register_words, cause_said, iir_words, bits_said, lsr_said, msr_said, marks_named, marks_said, levels_said, lines_in, line_list, lines_said}
use Rattle.names.specs.Examples.{Examples}

pub exemplified : Examples
unfolding pick bit digit digits_within decimal capital hex later_words refusal_words name_read name_written name_of name_at_divisor register_words cause_said iir_words bits_said lsr_said msr_said marks_named marks_said levels_said lines_in line_list lines_said
exemplified = record {
  refused_1 = refl;
  refused_6 = refl;
  refused_9 = refl;
  refused_15 = refl;
  refused_18 = refl;
  refused_20 = refl;
  received = refl;
  sent = refl;
  cause = refl;
  control = refl;
  divisor_low = refl;
  divisor_high = refl;
  enabled = refl;
  above = refl;
  data_waits = refl;
  nothing_to_send = refl;
  none_named = refl;
  idle = refl;
  waits = refl;
  busy = refl;
  all = refl;
  quiet = refl;
  called = refl;
  ended = refl;
  clean = refl;
  marked = refl;
  no_marks = refl;
  named = refl;
  levels = refl;
  no_level = refl;
  no_levels = refl;
  one_line = refl;
  two_lines = refl;
  no_line = refl;
}
