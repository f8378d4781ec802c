-- A channel as bytes: the part of a seat's record that every version has.
use Rattle.std.specs.Prelude.{ℕ, Bool, List, [], ◌∷◌, ◌++◌, ◌≡◌, leb, ltb, length, get_or}
use Rattle.std.proofs.lemmas.List.Edits.{sets}
use Rattle.base.specs.Bits.{digit}
use Rattle.base.specs.ListLaws.{listed}
use Rattle.base.specs.Pick.{pick}
use Rattle.channel.specs.declared.Channel.{Channel}
use Rattle.queue.specs.declared.Character.{Character}
use Rattle.queue.specs.declared.Queue.{Queue}
use Rattle.queue.specs.Queue.{no_character}
use Rattle.channel_image.specs.Places.{channel_length}

-- one byte of the character in slot k of a queue; from the number queued on there is no character, and the byte is 0
abbrev pub queued_byte : (Character → ℕ) → Queue → ℕ → ℕ
queued_byte field q k = pick (ltb k q.count) (field (get_or q.slots k no_character)) 0

-- of its sixteen slots, the oldest character's first: the data, or the marks
abbrev pub bytes_of : (Character → ℕ) → Queue → List ℕ
bytes_of field q = listed 16 (queued_byte field q)

-- bytes 0 to 16: registers, flags, marks and counts, the shift register, and how many are queued to send
unfoldable pub front_bytes : Channel → List ℕ
front_bytes c =
    c.settings.ier
    ∷ c.settings.fcr
    ∷ c.settings.lcr
    ∷ c.settings.mcr
    ∷ c.modem.changes
    ∷ c.settings.scratch
    ∷ c.modem.levels
    ∷ c.settings.dll
    ∷ c.settings.dlm
    ∷ c.receiver.last
    ∷ digit c.receiver.overrun
    ∷ c.receiver.kept
    ∷ digit c.transmitter.flag
    ∷ c.receiver.timeout
    ∷ digit c.transmitter.busy
    ∷ pick c.transmitter.busy c.transmitter.shift 0
    ∷ c.transmitter.queue.count
    ∷ []

-- the channel, in 66 bytes: those, the characters to send, and the number, the data and the marks of those received
unfoldable pub channel_bytes : Channel → List ℕ
channel_bytes c =
    front_bytes c ++ bytes_of (λ ch. ch.«data») c.transmitter.queue ++ (c.receiver.queue.count ∷ [])
    ++ bytes_of (λ ch. ch.«data») c.receiver.queue
    ++ bytes_of (λ ch. ch.marks) c.receiver.queue

-- a lent part has room for a channel
abbrev pub has_room : List ℕ → Bool
has_room l = leb channel_length (length l)

-- ticket 2: "Each seat record goes into its own stretch of the buffer": at the start of the part that is lent for it, which was `l` and is `l'`
-- then; without room it stays
pub record Put (c : Channel) (l l' : List ℕ) (r : Bool) : Type 0 where
  pub answer : r ≡ has_room l
  pub bytes : l' ≡ pick (has_room l) (sets l 0 (channel_bytes c)) l
