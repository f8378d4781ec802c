-- What each byte of a seat's record tells, by its number.
use Rattle.std.specs.Prelude.{◌/◌, ◌%◌, ◌≡◌, length, take}
use Rattle.channel_image.specs.Fields.{byte_at}
use Rattle.channel_image.specs.Told as channel
use Rattle.channel_image.specs.Written.{channel_bytes}
use Rattle.seat.specs.declared.Seat.{Seat}
use Rattle.seat.specs.Seats.{queued}
use Rattle.seat_image.specs.Written.{record_of}

pub record Bytes (s : Seat) : Type 0 where
  pub length_86 : length (record_of s) ≡ 86
  -- the first 66 are the channel's, and each of them is told
  pub channel_0 : take 66 (record_of s) ≡ channel_bytes s.channel
  pub channel : channel.Bytes s.channel
  -- then five numbers of four bytes, the low byte first
  pub arrived_66 : byte_at (record_of s) 66 ≡ s.tallies.arrived % 256
  pub arrived_67 : byte_at (record_of s) 67 ≡ s.tallies.arrived / 256 % 256
  pub arrived_68 : byte_at (record_of s) 68 ≡ s.tallies.arrived / 65536 % 256
  pub arrived_69 : byte_at (record_of s) 69 ≡ s.tallies.arrived / 16777216
  pub read_70 : byte_at (record_of s) 70 ≡ s.tallies.read % 256
  pub read_71 : byte_at (record_of s) 71 ≡ s.tallies.read / 256 % 256
  pub read_72 : byte_at (record_of s) 72 ≡ s.tallies.read / 65536 % 256
  pub read_73 : byte_at (record_of s) 73 ≡ s.tallies.read / 16777216
  pub lost_74 : byte_at (record_of s) 74 ≡ s.tallies.lost % 256
  pub lost_75 : byte_at (record_of s) 75 ≡ s.tallies.lost / 256 % 256
  pub lost_76 : byte_at (record_of s) 76 ≡ s.tallies.lost / 65536 % 256
  pub lost_77 : byte_at (record_of s) 77 ≡ s.tallies.lost / 16777216
  pub dropped_78 : byte_at (record_of s) 78 ≡ s.tallies.dropped % 256
  pub dropped_79 : byte_at (record_of s) 79 ≡ s.tallies.dropped / 256 % 256
  pub dropped_80 : byte_at (record_of s) 80 ≡ s.tallies.dropped / 65536 % 256
  pub dropped_81 : byte_at (record_of s) 81 ≡ s.tallies.dropped / 16777216
  pub queued_82 : byte_at (record_of s) 82 ≡ queued s % 256
  pub queued_83 : byte_at (record_of s) 83 ≡ queued s / 256 % 256
  pub queued_84 : byte_at (record_of s) 84 ≡ queued s / 65536 % 256
  pub queued_85 : byte_at (record_of s) 85 ≡ queued s / 16777216

-- of every seat, sound or not
abbrev pub Told : Type 0
Told = (s : Seat) → Bytes s
