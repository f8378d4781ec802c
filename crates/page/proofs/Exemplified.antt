-- The examples compute.
use mathlib.Core.Path.{refl}
use Rattle.base.specs.Pick.{pick}
use Rattle.text.specs.Line.{capital}
use Rattle.page.specs.Pieces.{hex, letter}
use Rattle.page.specs.Pages.{no_page, column_after, put_byte, put, shown, headed, separation, fits, placed, joined, ended}
use Rattle.page.specs.Notes.{plain, word_length, passed, note_byte, noted, commented}
use Rattle.page.specs.Examples.{Examples}

pub exemplified : Examples
unfolding pick capital hex letter no_page column_after put_byte put shown headed separation fits placed joined ended plain word_length passed note_byte noted commented
exemplified = record {
  short = refl;
  alone = refl;
  full = refl;
  over = refl;
  folded = refl;
  letters = refl;
  blank = refl;
  first = refl;
  last = refl;
  delete = refl;
}
