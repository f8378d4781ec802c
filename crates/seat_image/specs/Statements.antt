-- The statements of this room. The proofs give the record whole.
use Rattle.seat_image.specs.Fields.{Exactly}
use Rattle.seat_image.specs.ThereAndBack.{ReadBack, WrittenBack, SaysSound, Older, Lent}
use Rattle.seat_image.specs.Told.{Told}

pub record Statements : Type 0 where
  pub told : Told
  pub exactly : Exactly
  pub read_back : ReadBack
  pub written_back : WrittenBack
  pub says_sound : SaysSound
  pub older : Older
  pub lent : Lent
