-- The examples compute.
use mathlib.Core.Path.{refl}
use Rattle.base.specs.Pick.{pick}
use Rattle.base.specs.Bits.{bit, digit}
use Rattle.text.specs.Line.{digits_within, decimal, capital}
use Rattle.page.specs.Pieces.{hex, letter}
use Rattle.names.specs.Words.{later_words, refusal_words, name_read, name_written, name_of, name_at_divisor, register_words, cause_said, iir_words, bits_said, lsr_said, msr_said, marks_named, marks_said, lines_in, line_list, lines_said}
use Rattle.answers.specs.Came.{refused_came, behind_said, figures_said, letter_came, plain_came, register_came, port_name, port_came, byte_came, sent_came, vector_came, spurious_came}
use Rattle.answers.specs.Examples.{Examples}

pub exemplified : Examples
unfolding pick bit digit digits_within decimal capital hex letter later_words refusal_words name_read name_written name_of name_at_divisor register_words cause_said iir_words bits_said lsr_said msr_said marks_named marks_said lines_in line_list lines_said refused_came behind_said figures_said letter_came plain_came register_came port_name port_came byte_came sent_came vector_came spurious_came
exemplified = record {
  letter = refl;
  behind = refl;
  again = refl;
  cause = refl;
  line_status = refl;
  modem_status = refl;
  divisor = refl;
  scratch = refl;
  requests = refl;
  service = refl;
  mask = refl;
  sent = refl;
  idle = refl;
  broken = refl;
  vector = refl;
  spurious = refl;
  done = refl;
  refused = refl;
}
