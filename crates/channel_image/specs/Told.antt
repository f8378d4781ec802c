-- What each byte of a channel tells, by its number.
use Rattle.std.specs.Prelude.{ℕ, ◌+◌, ◌<◌, ◌≤◌, true, false, ◌≡◌, length, get_or}
use Rattle.base.specs.Bits.{digit}
use Rattle.queue.specs.declared.Queue.{Queue}
use Rattle.queue.specs.declared.Character.{Character}
use Rattle.queue.specs.Queue.{no_character}
use Rattle.channel.specs.declared.Channel.{Channel}
use Rattle.channel_image.specs.Fields.{byte_at}
use Rattle.channel_image.specs.Written.{channel_bytes}

-- character k of a queue, the oldest is 0
abbrev pub queued_at : Queue → ℕ → Character
queued_at q k = get_or q.slots k no_character

pub record Bytes (c : Channel) : Type 0 where
  pub length_66 : length (channel_bytes c) ≡ 66
  pub ier_0 : byte_at (channel_bytes c) 0 ≡ c.settings.ier
  pub fcr_1 : byte_at (channel_bytes c) 1 ≡ c.settings.fcr
  pub lcr_2 : byte_at (channel_bytes c) 2 ≡ c.settings.lcr
  pub mcr_3 : byte_at (channel_bytes c) 3 ≡ c.settings.mcr
  pub changes_4 : byte_at (channel_bytes c) 4 ≡ c.modem.changes
  pub scratch_5 : byte_at (channel_bytes c) 5 ≡ c.settings.scratch
  pub levels_6 : byte_at (channel_bytes c) 6 ≡ c.modem.levels
  pub dll_7 : byte_at (channel_bytes c) 7 ≡ c.settings.dll
  pub dlm_8 : byte_at (channel_bytes c) 8 ≡ c.settings.dlm
  pub last_9 : byte_at (channel_bytes c) 9 ≡ c.receiver.last
  pub overrun_10 : byte_at (channel_bytes c) 10 ≡ digit c.receiver.overrun
  pub kept_11 : byte_at (channel_bytes c) 11 ≡ c.receiver.kept
  pub flag_12 : byte_at (channel_bytes c) 12 ≡ digit c.transmitter.flag
  pub timeout_13 : byte_at (channel_bytes c) 13 ≡ c.receiver.timeout
  pub busy_14 : byte_at (channel_bytes c) 14 ≡ digit c.transmitter.busy
  -- the character in the shift register, and 0 where there is none
  pub shift_15 : c.transmitter.busy ≡ true → byte_at (channel_bytes c) 15 ≡ c.transmitter.shift
  pub idle_15 : c.transmitter.busy ≡ false → byte_at (channel_bytes c) 15 ≡ 0
  pub waiting_16 : byte_at (channel_bytes c) 16 ≡ c.transmitter.queue.count
  pub received_33 : byte_at (channel_bytes c) 33 ≡ c.receiver.queue.count
  -- the characters in the queues, with the marks of those received in either mode
  pub outgoing_17 : (k : ℕ) → k < 16 → k < c.transmitter.queue.count
      → byte_at (channel_bytes c) (17 + k) ≡ (queued_at c.transmitter.queue k).«data»
  pub arrived_34 : (k : ℕ) → k < 16 → k < c.receiver.queue.count
      → byte_at (channel_bytes c) (34 + k) ≡ (queued_at c.receiver.queue k).«data»
  pub marks_50 : (k : ℕ) → k < 16 → k < c.receiver.queue.count
      → byte_at (channel_bytes c) (50 + k) ≡ (queued_at c.receiver.queue k).marks
  -- and 0 behind them, whatever stands in the slots
  pub unsent_17 : (k : ℕ) → k < 16 → c.transmitter.queue.count ≤ k → byte_at (channel_bytes c) (17 + k) ≡ 0
  pub unreceived_34 : (k : ℕ) → k < 16 → c.receiver.queue.count ≤ k → byte_at (channel_bytes c) (34 + k) ≡ 0
  pub unmarked_50 : (k : ℕ) → k < 16 → c.receiver.queue.count ≤ k → byte_at (channel_bytes c) (50 + k) ≡ 0

-- of every channel, sound or not
abbrev pub Told : Type 0
Told = (c : Channel) → Bytes c
