-- All statements of this room hold; the examples compute.
use mathlib.Core.Path.{refl}
use Rattle.base.specs.Pick.{pick}
use Rattle.base.specs.Bits.{bit}
use Rattle.text.specs.Line.{digits_within, decimal}
use Rattle.moves.specs.Moved.{counted, turned, troubles_moved, changes_moved, seat_moved, controller_moved, line_words, line_turned, lines_turned, first_moved}
use Rattle.moves.proofs.MovedLaws.{seat_fits, controller_fits, seat_pieces_lem, controller_pieces_lem}
use Rattle.moves.proofs.StillLaws.{none_joined, seat_still, controller_still}
use Rattle.moves.specs.Examples.{Examples}
use Rattle.moves.specs.Statements.{Statements}

exemplified : Examples
unfolding pick bit digits_within decimal counted turned troubles_moved changes_moved seat_moved line_words line_turned lines_turned first_moved
exemplified = record {
  queued = refl;
  emptied = refl;
  loaded = refl;
  sent = refl;
  broken = refl;
  lost = refl;
  rung = refl;
  read = refl;
  rises = refl;
  serves = refl;
  ranks = refl;
  reset = refl;
  above = refl;
}

pub statements : Statements
statements =
    record {
      examples = exemplified;
      none_cut =
          record {
            seat = seat_fits;
            controller = controller_fits;
            few = λ c c' kind n k k'. (seat_pieces_lem c c' kind n, controller_pieces_lem k k');
          };
      stays_untold =
          record {
            seat = λ p c kind n. none_joined p (seat_moved c c kind n) (seat_still c kind n);
            controller = λ p k. none_joined p (controller_moved k k) (controller_still k);
          };
    }
