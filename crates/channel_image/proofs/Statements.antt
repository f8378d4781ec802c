-- All statements of this room hold.
use Rattle.channel_image.proofs.FieldLaws.{exactly}
use Rattle.channel_image.proofs.ReadLaws.{written_back, good_sound}
use Rattle.channel_image.specs.Statements.{Statements}
use Rattle.channel_image.proofs.WrittenLaws.{found_written}
use Rattle.channel_image.proofs.Lending.{lent}
use Rattle.channel_image.proofs.Telling.{told}

pub statements : Statements
statements =
    record {
      told = told;
      exactly = exactly;
      read_back = found_written;
      written_back = written_back;
      says_sound = good_sound;
      lent = lent;
    }
