-- The examples compute.
use mathlib.Core.Path.{refl}
use Rattle.base.specs.Pick.{pick}
use Rattle.text.specs.Hex.{digit as worth}
use Rattle.options.specs.Moments.{same_bytes, with_digit, number_from, number_of, moment_of}
use Rattle.options.specs.Words.{place_of, once, with_when, dashed, option_read, words_after}
use Rattle.options.specs.Examples.{Examples}

pub exemplified : Examples
unfolding pick worth same_bytes with_digit number_from number_of moment_of place_of once with_when dashed option_read words_after
exemplified = record {
  nothing_asked = refl;
  lesson = refl;
  dashes = refl;
  saved = refl;
  both = refl;
  twice = refl;
  tallied = refl;
  explained = refl;
  shown = refl;
  shown_last = refl;
  timed = refl;
  named_so = refl;
  missing = refl;
  missing_when = refl;
  no_number = refl;
  no_sign = refl;
  two_lessons = refl;
  two_tallies = refl;
  two_states = refl;
  no_moment = refl;
  no_option = refl;
}
