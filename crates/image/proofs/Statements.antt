-- All statements of this room hold.
use Rattle.image.proofs.FieldLaws.{exactly}
use Rattle.image.specs.Statements.{Statements}
use Rattle.image.proofs.Numbering.{numbers, save_numbers}
use Rattle.image.proofs.Outside.{placed, power_up_image, stays}
use Rattle.image.proofs.Returning.{read_back, answers_alike, written_back, versions, older_written_back, one_to_one, untouched, no_edge, reached}

pub statements : Statements
statements =
    record {
      placed = placed;
      power_up_image = power_up_image;
      read_back = read_back;
      answers_alike = answers_alike;
      written_back = written_back;
      versions = versions;
      older_written_back = older_written_back;
      one_to_one = one_to_one;
      numbers = numbers;
      save_numbers = save_numbers;
      exactly = exactly;
      stays = stays;
      untouched = untouched;
      no_edge = no_edge;
      reached = reached;
    }
