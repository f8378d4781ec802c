-- The examples compute.
use mathlib.Core.Path.{refl}
use Rattle.base.specs.Pick.{pick}
use Rattle.base.specs.Bits.{bit}
use Rattle.text.specs.Line.{digits_within, decimal, capital}
use Rattle.page.specs.Pieces.{hex, letter}
use Rattle.names.specs.Words.{name_read, name_written, name_of, name_at_divisor, register_words, bits_said, marks_named, marks_said, levels_said}
use Rattle.deeds.specs.Done.{seat_words, read_done, value_written, write_done, arrival_done, levels_done, time_done, controller_read_done, word_at0, word_at1, word_written, controller_write_done, seat_done, other_done, whole_done, cut_done}
use Rattle.deeds.specs.Examples.{Examples}

pub exemplified : Examples
unfolding pick bit digits_within decimal capital hex letter name_read name_written name_of name_at_divisor register_words bits_said marks_named marks_said levels_said seat_words read_done value_written write_done arrival_done levels_done time_done controller_read_done word_at0 word_at1 word_written controller_write_done seat_done other_done whole_done cut_done
exemplified = record {
  reads = refl;
  reads_above = refl;
  writes = refl;
  writes_divisor = refl;
  sends = refl;
  writes_above = refl;
  arrives = refl;
  arrives_marked = refl;
  inputs = refl;
  no_inputs = refl;
  time = refl;
  reset = refl;
  reads_requests = refl;
  reads_service = refl;
  reads_mask = refl;
  reads_port = refl;
  begins = refl;
  ends = refl;
  selects = refl;
  too_soon = refl;
  second = refl;
  fourth = refl;
  masks = refl;
  writes_port = refl;
  acknowledges = refl;
  no_kind = refl;
  cut_off = refl;
}
