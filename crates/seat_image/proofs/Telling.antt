-- Each byte of a record, as it is told.
use mathlib.Core.Path.{refl}
use lib.Seq.{take_at}
use Rattle.channel_image.proofs.Telling as channel
use Rattle.channel_image.specs.Written.{front_bytes, channel_bytes}
use Rattle.channel_image.proofs.WrittenLaws.{channel_length_lem}
use Rattle.seat.specs.Seats.{queued}
use Rattle.seat_image.proofs.BackLaws.{record_length_lem}
use Rattle.seat_image.specs.Told.{Told}
use Rattle.seat_image.specs.Words.{word_bytes}
use Rattle.seat_image.specs.Written.{tally_bytes, record_of}

pub told : Told
unfolding record_of channel_bytes front_bytes tally_bytes word_bytes
told s =
    record {
      length_86 = record_length_lem s;
      channel_0 = take_at (channel_bytes s.channel) (tally_bytes s.tallies (queued s)) 66 (channel_length_lem s.channel);
      channel = channel.told s.channel;
      arrived_66 = refl;
      arrived_67 = refl;
      arrived_68 = refl;
      arrived_69 = refl;
      read_70 = refl;
      read_71 = refl;
      read_72 = refl;
      read_73 = refl;
      lost_74 = refl;
      lost_75 = refl;
      lost_76 = refl;
      lost_77 = refl;
      dropped_78 = refl;
      dropped_79 = refl;
      dropped_80 = refl;
      dropped_81 = refl;
      queued_82 = refl;
      queued_83 = refl;
      queued_84 = refl;
      queued_85 = refl;
    }
