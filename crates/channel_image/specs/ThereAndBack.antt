-- A channel written and read, and bytes read and written.
use Rattle.std.specs.Prelude.{ℕ, ◌<◌, ◌≤◌, Bool, true, false, List, ◌++◌, ◌≡◌, length, take, drop, Some, None}
use Rattle.channel.specs.declared.Channel.{Channel}
use Rattle.channel.specs.Sound.{sound_channel}
use Rattle.channel_image.specs.Allowed.{channel_good}
use Rattle.channel_image.specs.Read.{channel_from, found}
use Rattle.channel_image.specs.Written.{channel_bytes, Put}

-- ticket 2: "A bench read back answers every later event as the saved one.": a sound channel is found as it was written, whatever stands
-- behind it
abbrev pub ReadBack : Type 0
ReadBack = (c : Channel) (rest : List ℕ) → sound_channel c ≡ true → found (channel_bytes c ++ rest) ≡ Some c

-- good bytes are written back as they were read
abbrev pub WrittenBack : Type 0
WrittenBack = (l : List ℕ) → length l ≡ 66 → channel_good l ≡ true → channel_bytes (channel_from l) ≡ l

-- and say a sound channel
abbrev pub SaysSound : Type 0
SaysSound = (l : List ℕ) → channel_good l ≡ true → sound_channel (channel_from l) ≡ true

-- ---- what is lent

pub record Lent : Type 0 where
  -- with room, it stands at the start, and what is behind it stays
  pub room : (c : Channel) (l l' : List ℕ) (r : Bool) → Put c l l' r → 66 ≤ length l
      → (r ≡ true) × ((take 66 l' ≡ channel_bytes c) × (drop 66 l' ≡ drop 66 l))
  -- without, all of it stays, and nothing is found
  pub none : (c : Channel) (l l' : List ℕ) (r : Bool) → Put c l l' r → length l < 66 → (r ≡ false) × (l' ≡ l)
  pub short : (l : List ℕ) → length l < 66 → found l ≡ None
