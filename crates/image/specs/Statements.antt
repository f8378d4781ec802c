-- The statements of this room. The proofs give the record whole.
use Rattle.image.specs.Fields.{Exactly}
use Rattle.image.specs.Numbers.{Numbers, SaveNumbers}
use Rattle.image.specs.ThereAndBack.{Placed, PowerUpImage, ReadBack, AnswersAlike, WrittenBack, Versions, OlderWrittenBack, OneToOne, Stays, Untouched, NoEdge, Reached}

pub record Statements : Type 0 where
  pub placed : Placed
  pub power_up_image : PowerUpImage
  pub read_back : ReadBack
  pub answers_alike : AnswersAlike
  pub written_back : WrittenBack
  pub versions : Versions
  pub older_written_back : OlderWrittenBack
  pub one_to_one : OneToOne
  pub numbers : Numbers
  pub save_numbers : SaveNumbers
  pub exactly : Exactly
  pub stays : Stays
  pub untouched : Untouched
  pub no_edge : NoEdge
  pub reached : Reached
