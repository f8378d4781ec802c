-- The bytes of a sound channel: they are read back as the same channel, and nothing of them is refused.
use Rattle.std.specs.Prelude.{ℕ, Bool, true, false, ◌||◌, List, ◌++◌, ◌≡◌, refl, eqb, length, take, Some}
use Rattle.std.proofs.Math.Bool.{◌&&◌, or-true}
use Rattle.std.proofs.Math.Path.{ap, ap₂}
use Rattle.std.proofs.Common.{sym, ◌∙◌, arith, length-append, take_at}
use Rattle.std.proofs.Math.Dec.{leb, ltb}
use borrow.Author.Tests.{eqb-true, eq-eqb, le-leb}
use Rattle.base.specs.Bits.{digit}
use Rattle.base.specs.EveryLaws.{every_from}
use Rattle.base.specs.Pick.{pick}
use Rattle.base.specs.PickLaws.{pick_true, pick_false}
use Rattle.channel.specs.declared.Channel.{Channel}
use Rattle.channel.specs.Parts.{fifo}
use Rattle.channel_laws.specs.SoundLaws as channel
use Rattle.receiver.specs.Receiver.{none_queued}
use Rattle.receiver.specs.Sound as received
use Rattle.receiver.proofs.SoundLaws as receiver
use Rattle.channel.specs.Sound.{sound_channel}
use Rattle.transmitter.specs.SoundLaws as transmitter
use Rattle.channel_image.specs.Allowed.{sixteen_small, registers_in_range, flags_in_range, marks_in_range, queues_within, count_allowed, unused_zero, channel_good}
use Rattle.channel_image.specs.Places.{channel_length}
use Rattle.channel_image.specs.Read.{slots_from, transmitter_from, receiver_from, channel_from, found}
use Rattle.channel_image.specs.SlotLaws.{count_within, slots_told, unmarked_told, marks_small, unused_told}
use Rattle.channel_image.specs.Written.{queued_byte, front_bytes, channel_bytes, has_room}

pub channel_length_lem : (c : Channel) → length (channel_bytes c) ≡ channel_length
unfolding channel_bytes front_bytes
channel_length_lem c = refl

-- ---- a yes-or-no as a byte

pub digit_yes : (b : Bool) → eqb (digit b) 1 ≡ b
unfolding digit pick
digit_yes true = refl
digit_yes false = refl

pub digit_small : (b : Bool) → leb (digit b) 1 ≡ true
unfolding digit pick
digit_small true = refl
digit_small false = refl

-- ---- read back

-- a byte that is told where there is one, and is 0 where there is none
shift_told : (busy : Bool) (shift : ℕ) → (busy || eqb shift 0) ≡ true → pick busy shift 0 ≡ shift
shift_told true shift kept = pick_true _ _ _ refl
shift_told false shift kept = pick_false _ _ _ refl ∙ sym (eqb-true shift 0 kept)

module _ (c : Channel) (tx : transmitter.Sound (fifo c) c.transmitter) (rx : receiver.Sound (fifo c) c.receiver) where
  receiver_back : receiver_from (channel_bytes c) ≡ c.receiver
  unfolding receiver_from slots_from channel_bytes front_bytes
  receiver_back =
      λ i. record {
        queue = record { slots = slots_told _ c.receiver.queue rx.tidy i; count = c.receiver.queue.count };
        overrun = digit_yes c.receiver.overrun i;
        kept = c.receiver.kept;
        timeout = c.receiver.timeout;
        last = c.receiver.last;
      }

  transmitter_back : transmitter_from (channel_bytes c) ≡ c.transmitter
  unfolding transmitter_from slots_from channel_bytes front_bytes
  transmitter_back =
      λ i. record {
        queue = record { slots = unmarked_told _ c.transmitter.queue tx.tidy tx.unmarked i; count = c.transmitter.queue.count };
        busy = digit_yes c.transmitter.busy i;
        shift = shift_told c.transmitter.busy c.transmitter.shift tx.nothing_left i;
        flag = digit_yes c.transmitter.flag i;
      }

  channel_back : channel_from (channel_bytes c) ≡ c
  unfolding channel_from channel_bytes front_bytes
  channel_back =
      λ i. record {
        settings = c.settings;
        receiver = receiver_back i;
        transmitter = transmitter_back i;
        modem = c.modem;
      }

-- both sides of a sound channel
sides : (c : Channel) → channel.Sound c → transmitter.Sound (fifo c) c.transmitter × receiver.Sound (fifo c) c.receiver
sides c p = (transmitter.parts (fifo c) c.transmitter p.transmitter, receiver.parts (fifo c) c.receiver p.receiver)

-- ticket 2: "A bench read back answers every later event as the saved one": each channel is the same channel
pub read_back : (c : Channel) → sound_channel c ≡ true → channel_from (channel_bytes c) ≡ c
read_back c sound = let both = sides c (channel.parts c sound) in channel_back c both.0 both.1

-- ---- nothing is refused

module _ (c : Channel) (p : channel.Sound c) where
  registers_told : registers_in_range (channel_bytes c) ≡ true
  unfolding registers_in_range channel_bytes front_bytes
  registers_told =
      rw (
        le-leb c.settings.ier 15 (omega (arith, p.enables)),
        eq-eqb _ _ p.modes,
        le-leb c.settings.mcr 31 (omega (arith, p.outputs)),
        le-leb c.modem.changes 15 (omega (arith, p.changes)),
        le-leb c.modem.levels 15 (omega (arith, p.levels)),
      )

  flags_told : flags_in_range (channel_bytes c) ≡ true
  unfolding flags_in_range channel_bytes front_bytes
  flags_told =
      let rx = (sides c p).1 in
      rw (
        digit_small c.receiver.overrun,
        le-leb c.receiver.kept 7 (omega (arith, rx.kept)),
        digit_small c.transmitter.flag,
        le-leb c.receiver.timeout 4 rx.counted,
        digit_small c.transmitter.busy,
      )

  marks_told : marks_in_range (channel_bytes c) ≡ true
  unfolding marks_in_range sixteen_small channel_bytes front_bytes
  marks_told =
      let rx = (sides c p).1 in
      let q = c.receiver.queue in
      every_from 16 (λ k. ltb k 0 || leb (queued_byte (λ ch. ch.marks) q k) 7)
      (λ k below.
      ap (λ (b : Bool). ltb k 0 || b) (le-leb (queued_byte (λ ch. ch.marks) q k) 7 (omega (arith, marks_small _ q rx.tidy rx.marks k)))
      ∙ or-true (ltb k 0))

  queues_told : queues_within (channel_bytes c) ≡ true
  unfolding queues_within channel_bytes front_bytes
  queues_told =
      let both = sides c p in
      ap₂ ◌&&◌ (count_within _ c.transmitter.queue both.0.tidy) (count_within _ c.receiver.queue both.1.tidy)

  count_told : count_allowed (channel_bytes c) ≡ true
  unfolding count_allowed received.count_allowed none_queued channel_bytes front_bytes
  count_told = (sides c p).1.allowed

-- of any channel, sound or not: an unused byte is 0
pub unused_zero_lem : (c : Channel) → unused_zero (channel_bytes c) ≡ true
unfolding unused_zero sixteen_small channel_bytes front_bytes
unused_zero_lem c =
    ap₂ ◌&&◌
    (ap₂ ◌&&◌
    (ap₂ ◌&&◌ (shift c.transmitter.busy c.transmitter.shift) (unused_told (λ ch. ch.«data») c.transmitter.queue))
    (unused_told (λ ch. ch.«data») c.receiver.queue))
    (unused_told (λ ch. ch.marks) c.receiver.queue)
  where
    shift : (busy : Bool) (byte : ℕ) → (eqb (digit busy) 1 || eqb (pick busy byte 0) 0) ≡ true
    shift true byte = ap (λ (b : Bool). b || eqb (pick true byte 0) 0) (digit_yes true)
    shift false byte = ap₂ ◌||◌ (digit_yes false) (ap (λ (n : ℕ). eqb n 0) (pick_false _ byte 0 refl))

pub sound_good : (c : Channel) → sound_channel c ≡ true → channel_good (channel_bytes c) ≡ true
unfolding channel_good
sound_good c sound =
    let p = channel.parts c sound in
    rw (registers_told c p, flags_told c p, marks_told c p, queues_told c p, count_told c p, unused_zero_lem c)

-- what the reader finds in it, whatever stands behind it
pub found_written : (c : Channel) (rest : List ℕ) → sound_channel c ≡ true → found (channel_bytes c ++ rest) ≡ Some c
unfolding found
found_written c rest sound =
    let front : take channel_length (channel_bytes c ++ rest) ≡ channel_bytes c = take_at (channel_bytes c) rest channel_length (channel_length_lem c) in
    let room : has_room (channel_bytes c ++ rest) ≡ true
    = le-leb channel_length (length (channel_bytes c ++ rest)) (omega (arith, length-append (channel_bytes c) rest, channel_length_lem c)) in
    let good : (has_room (channel_bytes c ++ rest) && channel_good (take channel_length (channel_bytes c ++ rest))) ≡ true
    = ap₂ ◌&&◌ room (ap channel_good front ∙ sound_good c sound) in
    pick_true _ _ _ good ∙ ap Some (ap channel_from front ∙ read_back c sound)
