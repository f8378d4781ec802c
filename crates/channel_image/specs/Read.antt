-- The channel that its bytes say.
use Rattle.std.specs.Prelude.{ℕ, ◌+◌, ◌&&◌, List, take, replicate, Option, Some, None}
use Rattle.base.specs.ListLaws.{listed}
use Rattle.base.specs.Pick.{pick}
use Rattle.channel.specs.declared.Channel.{Channel}
use Rattle.queue.specs.declared.Character.{Character}
use Rattle.receiver.specs.declared.Receiver.{Receiver}
use Rattle.registers.specs.declared.Settings.{Settings}
use Rattle.transmitter.specs.declared.Transmitter.{Transmitter}
use Rattle.channel_image.specs.Allowed.{channel_good}
use Rattle.channel_image.specs.Places.{channel_length, at, yes_at, ier_place, fcr_place, lcr_place, mcr_place, changes_place, scratch_place, levels_place, dll_place, dlm_place, last_place, overrun_place, kept_place, flag_place}
use Rattle.channel_image.specs.Places.{timeout_place, busy_place, shift_place, waiting_place, outgoing_place, received_place, arrived_place, marks_place}
use Rattle.channel_image.specs.Written.{has_room}

-- the registers
abbrev pub settings_from : List ℕ → Settings
settings_from l =
    record {
      ier = at l ier_place;
      fcr = at l fcr_place;
      lcr = at l lcr_place;
      mcr = at l mcr_place;
      scratch = at l scratch_place;
      dll = at l dll_place;
      dlm = at l dlm_place;
    }

-- character k of those whose data stand from one place on, and their marks from another
abbrev pub character_at : List ℕ → ℕ → List ℕ → ℕ → ℕ → Character
character_at l place m marks k = record { «data» = at l (place + k); marks = at m (marks + k) }

-- a queue's sixteen slots
unfoldable pub slots_from : List ℕ → ℕ → List ℕ → ℕ → List Character
slots_from l place m marks = listed 16 (character_at l place m marks)

-- characters to send have no marks
abbrev pub unmarked : List ℕ
unmarked = replicate 66 0

-- the send side
unfoldable pub transmitter_from : List ℕ → Transmitter
transmitter_from l =
    record {
      queue = record { slots = slots_from l outgoing_place unmarked 0; count = at l waiting_place };
      busy = yes_at l busy_place;
      shift = at l shift_place;
      flag = yes_at l flag_place;
    }

-- the receive side
unfoldable pub receiver_from : List ℕ → Receiver
receiver_from l =
    record {
      queue = record { slots = slots_from l arrived_place l marks_place; count = at l received_place };
      overrun = yes_at l overrun_place;
      kept = at l kept_place;
      timeout = at l timeout_place;
      last = at l last_place;
    }

unfoldable pub channel_from : List ℕ → Channel
channel_from l =
    record {
      settings = settings_from l;
      receiver = receiver_from l;
      transmitter = transmitter_from l;
      modem = record { levels = at l levels_place; changes = at l changes_place };
    }

-- the channel that a lent part begins with, or none; what stands behind it is not looked at
unfoldable pub found : List ℕ → Option Channel
found l = pick (has_room l && channel_good (take channel_length l)) (Some (channel_from (take channel_length l))) None
