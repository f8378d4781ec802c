-- The examples compute.
use mathlib.Core.Path.{refl}
use Rattle.base.specs.Pick.{pick}
use Rattle.base.specs.Bits.{bit, digit}
use Rattle.text.specs.Line.{capital, digits_within, decimal}
use Rattle.page.specs.Pieces.{hex}
use Rattle.page.specs.Pages.{no_page, column_after, put_byte, put, shown, headed, separation, fits, placed, joined, ended}
use Rattle.names.specs.Words.{lines_in, line_list, lines_said}
use Rattle.rank.specs.Rank.{above_every}
use Rattle.controller.specs.Turns.{requests, asks, hinders, grantable, output_of}
use Rattle.controller_page.specs.ControllerPages.{controller_head, base_words, setup_pieces, set_words, set_pieces, rank_words, mode_pieces, output_words, controller_pieces, controller_page}
use Rattle.controller_page.specs.Examples.{Examples}

pub exemplified : Examples
unfolding pick bit digit capital digits_within decimal hex no_page column_after put_byte put shown headed separation fits placed joined ended
    lines_in line_list lines_said above_every requests asks hinders grantable output_of
    controller_head base_words setup_pieces set_words set_pieces rank_words mode_pieces output_words controller_pieces controller_page
exemplified = record { at_first = refl; all_on = refl; masked = refl }
