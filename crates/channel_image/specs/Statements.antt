-- The statements of this room. The proofs give the record whole.
use Rattle.channel_image.specs.Fields.{Exactly}
use Rattle.channel_image.specs.ThereAndBack.{ReadBack, WrittenBack, SaysSound, Lent}
use Rattle.channel_image.specs.Told.{Told}

pub record Statements : Type 0 where
  pub told : Told
  pub exactly : Exactly
  pub read_back : ReadBack
  pub written_back : WrittenBack
  pub says_sound : SaysSound
  pub lent : Lent
