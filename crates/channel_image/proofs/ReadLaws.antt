-- What good bytes say is a sound channel, and that channel is written back as the same bytes.
use Rattle.std.specs.Prelude.{ℕ, zero, suc, ◌+◌, ◌<◌, ◌≤◌, true, false, ◌&&◌, List, [], ◌∷◌, ◌++◌, ◌⊎◌, ◌≡◌, refl, eqb, ltb, length, take, replicate, Some}
use Rattle.std.proofs.Common.{inl, inr, ap, sym, ◌∙◌, arith}
use borrow.Author.Tests.{lt-ltb, leb-true, ltb-false}
use Rattle.base.specs.Bits.{digit}
use Rattle.base.specs.ListLaws.{listed, listed_at, listed_same, written_out}
use Rattle.base.specs.Pick.{pick}
use Rattle.base.specs.PickLaws.{pick_true, pick_false, both_hold, either_way}
use Rattle.channel_laws.specs.SoundLaws as channel
use Rattle.queue.specs.declared.Character.{Character}
use Rattle.queue.specs.Queue.{no_character, capacity, marked}
use Rattle.queue.proofs.AcceptLaws.{capacity_small}
use Rattle.receiver.specs.Receiver.{none_queued}
use Rattle.receiver.specs.Sound.{sound_receiver}
use Rattle.receiver.specs.Sound as received
use Rattle.receiver.proofs.SoundLaws as receiver
use Rattle.channel.specs.Sound.{sound_channel}
use Rattle.transmitter.specs.Sound.{sound_transmitter}
use Rattle.transmitter.specs.SoundLaws as transmitter
use Rattle.channel.specs.declared.Channel.{Channel}
use Rattle.channel_image.specs.FoundLaws.{some_picked}
use Rattle.channel_image.specs.Allowed.{fifo_at, count_allowed, channel_good}
use Rattle.channel_image.proofs.FieldLaws.{good_fields, groups, registers, unused, within}
use Rattle.channel_image.specs.Fields.{Fields}
use Rattle.channel_image.specs.PartLaws.{no_mark}
use Rattle.channel_image.specs.Places.{channel_length, at}
use Rattle.channel_image.specs.Read.{character_at, slots_from, transmitter_from, receiver_from, channel_from, found}
use Rattle.channel_image.specs.SlotLaws.{tidy_of, marks_within_lem, none_marked}
use Rattle.channel_image.specs.Written.{queued_byte, front_bytes, channel_bytes, has_room}

-- ---- a sound channel

module _ (l : List ℕ) (good : channel_good l ≡ true) where
  rows : Fields l
  rows = good_fields l good

  transmitter_sound : sound_transmitter (fifo_at l) (transmitter_from l) ≡ true
  unfolding transmitter_from slots_from marked
  transmitter_sound =
      let each = character_at l 17 (replicate 66 0) 0 in
      transmitter.whole (fifo_at l) (transmitter_from l)
      (record {
        tidy =
            tidy_of (capacity (fifo_at l)) (at l 16) each (capacity_small (fifo_at l)) (within l good).0
            (λ k below past i. record { «data» = rows.outgoing_unused k past below i; marks = no_mark 66 (0 + k) i });
        unmarked = none_marked 16 (at l 16) each (λ k. no_mark 66 (0 + k));
        nothing_left = (unused l good).0;
      })

  receiver_sound : sound_receiver (fifo_at l) (receiver_from l) ≡ true
  unfolding receiver_from slots_from count_allowed received.count_allowed none_queued
  receiver_sound =
      let each = character_at l 34 l 50 in
      receiver.whole (fifo_at l) (receiver_from l)
      (record {
        tidy =
            tidy_of (capacity (fifo_at l)) (at l 33) each (capacity_small (fifo_at l)) (within l good).1
            (λ k below past i. record { «data» = rows.arrived_unused k past below i; marks = rows.marks_unused k past below i });
        marks = marks_within_lem 16 (at l 33) each (λ k below. lt-ltb (at l (50 + k)) 8 (omega (arith, rows.marks k below)));
        kept = omega (arith, rows.kept);
        counted = rows.timeout;
        allowed = (groups l good).1.1.1.1.0;
      })

  pub good_sound : sound_channel (channel_from l) ≡ true
  unfolding channel_from
  good_sound =
      channel.whole (channel_from l)
      (record {
        enables = omega (arith, rows.ier);
        modes = (registers l good).1.0;
        outputs = omega (arith, rows.mcr);
        levels = omega (arith, rows.levels);
        changes = omega (arith, rows.changes);
        receiver = receiver_sound;
        transmitter = transmitter_sound;
      })

-- ---- written back

-- a yes-or-no byte
pub yes_digit : (x : ℕ) → x ≤ 1 → digit (eqb x 1) ≡ x
unfolding digit pick
yes_digit zero small = refl
yes_digit (suc zero) small = refl
yes_digit (suc (suc n)) small = absurd (omega arith)

-- the byte of an empty shift register is 0
shift_back : (busy shift : ℕ) → busy ≤ 1 → (busy ≡ 0 → shift ≡ 0) → pick (eqb busy 1) shift 0 ≡ shift
unfolding pick
shift_back zero shift small empty = sym (empty refl)
shift_back (suc zero) shift small empty = refl
shift_back (suc (suc n)) shift small empty = absurd (omega arith)

-- sixteen bytes of a queue, of which those behind its number are 0
slots_back : (field : Character → ℕ) (n : ℕ) (f : ℕ → Character) → ((k : ℕ) → n ≤ k → k < 16 → field (f k) ≡ 0)
    → listed 16 (queued_byte field (record { slots = listed 16 f; count = n })) ≡ listed 16 (λ k. field (f k))
slots_back field n f free = listed_same 16 _ (λ k. field (f k)) (λ k below. by k below (either_way (ltb k n)))
  where
    by : (k : ℕ) → k < 16 → (ltb k n ≡ true) ⊎ (ltb k n ≡ false) → queued_byte field (record { slots = listed 16 f; count = n }) k ≡ field (f k)
    by k below (inl used) = pick_true _ _ _ used ∙ ap field (listed_at 16 f k no_character below)
    by k below (inr past) = pick_false _ _ _ past ∙ sym (free k (ltb-false _ _ past) below)

module _ (l : List ℕ) (long : length l ≡ channel_length) (good : channel_good l ≡ true) where
  pub written_back : channel_bytes (channel_from l) ≡ l
  unfolding channel_from receiver_from transmitter_from slots_from channel_bytes front_bytes
  written_back =
      let f = good_fields l good in
      let overrun = yes_digit (at l 10) f.overrun in
      let flag = yes_digit (at l 12) f.flag in
      let busy = yes_digit (at l 14) f.busy in
      let shift = shift_back (at l 14) (at l 15) f.busy f.shift in
      let outgoing = slots_back (λ ch. ch.«data») (at l 16) (character_at l 17 (replicate 66 0) 0) f.outgoing_unused in
      let arrived = slots_back (λ ch. ch.«data») (at l 33) (character_at l 34 l 50) f.arrived_unused in
      let marks = slots_back (λ ch. ch.marks) (at l 33) (character_at l 34 l 50) f.marks_unused in
      (λ i.
      (at l 0
      ∷ at l 1
      ∷ at l 2
      ∷ at l 3
      ∷ at l 4
      ∷ at l 5
      ∷ at l 6
      ∷ at l 7
      ∷ at l 8
      ∷ at l 9
      ∷ overrun i
      ∷ at l 11
      ∷ flag i
      ∷ at l 13
      ∷ busy i
      ∷ shift i
      ∷ at l 16
      ∷ [])
      ++ outgoing i ++ (at l 33 ∷ []) ++ arrived i ++ marks i)
      ∙ written_out 66 l 0 long

-- ---- as the reader finds it

-- what was found
pub record Well (l : List ℕ) (c : Channel) : Type 0 where
  pub long : channel_length ≤ length l
  pub good : channel_good (take channel_length l) ≡ true
  pub channel : channel_from (take channel_length l) ≡ c

pub found_well : (l : List ℕ) (c : Channel) → found l ≡ Some c → Well l c
unfolding found
found_well l c said =
    let some = some_picked (has_room l && channel_good (take channel_length l)) (channel_from (take channel_length l)) c said in
    let two = both_hold (has_room l) (channel_good (take channel_length l)) some.0 in
    record { long = leb-true _ _ two.0; good = two.1; channel = some.1 }
