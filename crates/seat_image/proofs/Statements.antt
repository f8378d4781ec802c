-- All statements of this room hold.
use Rattle.seat_image.proofs.BackLaws.{found_written, written_back, good_sound}
use Rattle.seat_image.proofs.FieldLaws.{exactly}
use Rattle.seat_image.specs.Statements.{Statements}
use Rattle.seat_image.proofs.Lending.{lent}
use Rattle.seat_image.proofs.Older.{older}
use Rattle.seat_image.proofs.Telling.{told}

pub statements : Statements
statements =
    record {
      told = told;
      exactly = exactly;
      read_back = found_written;
      written_back = λ l long small good. written_back l long good small;
      says_sound = good_sound;
      older = older;
      lent = lent;
    }
