-- A sound seat is read back from its record, and a good record is written back.
use Rattle.std.specs.Prelude.{ℕ, zero, suc, ◌+◌, ◌<◌, ◌≤◌, true, false, ◌⊎◌, ◌≡◌, refl, take, drop, Some}
use Rattle.std.proofs.Math.Bool.{◌&&◌}
use mathlib.Core.List.{List, [], ◌∷◌, ◌++◌, append_assoc}
use Rattle.std.proofs.Common.{inl, inr, ◌∙◌, arith, length-append, length-drop, take_at, drop_at, take_all, take-add, get_or-drop, eq-eqb, le-leb}
use Rattle.std.proofs.Math.Path.{ap, ap₂, sym}
use Rattle.std.proofs.Math.ListN.{length}
use Rattle.std.proofs.Math.Seq.{length-take-le}
use Rattle.base.specs.PickLaws.{pick_true, pick_false, both_hold, either_way}
use Rattle.channel.specs.declared.Channel.{Channel}
use Rattle.channel.specs.Sound.{sound_channel}
use Rattle.channel_image.specs.Allowed.{channel_good}
use Rattle.channel_image.proofs.FieldLaws.{good_fields}
use Rattle.channel_image.specs.Fields.{byte_at}
use Rattle.channel_image.specs.Places.{at, channel_length, received_place}
use Rattle.channel_image.specs.Read.{channel_from, receiver_from}
use Rattle.channel_image.proofs.ReadLaws as channel
use Rattle.channel_image.specs.Written.{front_bytes, channel_bytes}
use Rattle.channel_image.proofs.WrittenLaws as written
use Rattle.channel_image.proofs.WrittenLaws.{channel_length_lem}
use Rattle.seat.specs.declared.Seat.{Seat}
use Rattle.seat.specs.declared.Tallies.{Tallies}
use Rattle.seat.specs.Seats.{queued}
use Rattle.seat.specs.Sound.{sound}
use Rattle.seat.specs.Tallies.{largest, add_up}
use Rattle.seat_image.proofs.FieldLaws.{halves, tally_tests}
use Rattle.seat_image.specs.Read.{has_tallies, length_of, channel_part, tally_part, queued_only, tallies_in, new_record}
use Rattle.seat_image.specs.Read.{tallies_from, tallies_good, tallies_told, seat_from, record_good, found}
use Rattle.seat_image.specs.ReadLaws.{has_own, has_none, front_fits, found_good, new_channel, new_tallies, new_good, new_seat}
use Rattle.seat_image.specs.WordLaws.{tally_length, tallies_back, still_back, tallies_written}
use Rattle.seat_image.specs.Words.{word_at}
use Rattle.seat_image.specs.Written.{record_length, tally_bytes, record_of}

pub record_length_lem : (s : Seat) → length (record_of s) ≡ record_length
unfolding record_of
record_length_lem s = length-append (channel_bytes s.channel) _ ∙ ap₂ ◌+◌ (channel_length_lem s.channel) (tally_length s.tallies (queued s))

-- ---- what a good record says

-- the bytes of a part are bytes of the whole
small_part : (n : ℕ) (l : List ℕ) → ((k : ℕ) → at l k < 256) → (k : ℕ) → at (take n l) k < 256
small_part zero l small k = omega arith
small_part (suc n) [] small k = omega arith
small_part (suc n) (x ∷ l) small zero = small zero
small_part (suc n) (x ∷ l) small (suc k) = small_part n l (λ j. small (suc j)) k

-- so the tallies' part is written back as it was read
part_back : (l : List ℕ) (still : ℕ) → record_length ≤ length l → ((k : ℕ) → byte_at l k < 256) → word_at (tally_part l) 16 ≡ still
    → tally_bytes (tallies_from (tally_part l)) still ≡ tally_part l
part_back l still long small counted =
    tallies_written (tally_part l) (length-take-le 20 (drop 66 l) (omega (arith, length-drop 66 l, long)))
    (small_part 20 (drop 66 l) (λ k. omega (arith, small (66 + k), get_or-drop 66 l k 0)))
    still counted

module _ (l : List ℕ) (good : record_good l ≡ true) where
  pub good_sound : sound (seat_from l) ≡ true
  unfolding seat_from channel_from receiver_from
  good_sound =
      let t = tally_tests l good in
      ap₂ ◌&&◌ (channel.good_sound (channel_part l) (halves l good).0)
      (ap (add_up (tallies_from (tally_part l))) (sym t.1) ∙ t.0)

  -- the tallies' part, written back as it was read, or as the defaults
  written_so : length (channel_part l) ≡ channel_length
      → tally_bytes (tallies_from (tally_part l)) (at (channel_part l) received_place) ≡ tally_part l
      → record_of (seat_from l) ≡ channel_part l ++ tally_part l
  unfolding seat_from record_of channel_from receiver_from
  written_so long back = ap₂ ◌++◌ (channel.written_back (channel_part l) long (halves l good).0) back

module _ (l : List ℕ) (long : length l ≡ record_length) (good : record_good l ≡ true) (small : (k : ℕ) → byte_at l k < 256) where
  pub written_back : record_of (seat_from l) ≡ l
  written_back =
      written_so l good (length-take-le 66 l (omega (arith, long)))
      (part_back l (at (channel_part l) received_place) (omega (arith, long)) small (tally_tests l good).1)
      ∙ sym (take-add 66 20 l) ∙ take_all 86 l (omega (arith, long))

-- and so one of any version, in the layout of the newest; where its version has no tallies, of whatever numbers it is
module _ (version : ℕ) (l : List ℕ) (long : length_of version ≤ length l) (good : record_good (new_record version l) ≡ true) where
  still : ℕ
  still = at (channel_part l) received_place

  tallies_in_lem : tally_part (new_record version l) ≡ tallies_in version l still
  unfolding still
  tallies_in_lem = new_tallies version l long

  still_in : at (channel_part (new_record version l)) received_place ≡ still
  unfolding still
  still_in = ap (λ (m : List ℕ). at m received_place) (new_channel version l long)

  counted : word_at (tallies_in version l still) 16 ≡ still
  counted = sym (ap (λ (b : List ℕ). word_at b 16) tallies_in_lem) ∙ (tally_tests (new_record version l) good).1 ∙ still_in

  in_back : (has_tallies version ≡ true → (k : ℕ) → byte_at l k < 256)
      → tally_bytes (tallies_from (tallies_in version l still)) still ≡ tallies_in version l still
  in_back small = by (either_way (has_tallies version))
    where
      own : has_tallies version ≡ true → tallies_in version l still ≡ tally_part l
      own h = has_own version l still h

      by : (has_tallies version ≡ true) ⊎ (has_tallies version ≡ false)
          → tally_bytes (tallies_from (tallies_in version l still)) still ≡ tallies_in version l still
      by (inl h) =
          ap (λ (b : List ℕ). tally_bytes (tallies_from b) still) (own h)
          ∙ part_back l still (omega (arith, long, pick_true {A = ℕ} (has_tallies version) 86 66 h)) (small h)
          (sym (ap (λ (b : List ℕ). word_at b 16) (own h)) ∙ counted)
          ∙ sym (own h)
      by (inr h) =
          ap (λ (b : List ℕ). tally_bytes (tallies_from b) still) (has_none version l still h)
          ∙ ap (λ (t : Tallies). tally_bytes t still) (tallies_back (queued_only still) still)
          ∙ sym (has_none version l still h)

  pub new_back : (has_tallies version ≡ true → (k : ℕ) → byte_at l k < 256) → record_of (seat_from (new_record version l)) ≡ new_record version l
  unfolding new_record still
  new_back small =
      written_so (new_record version l) good
      (ap length (new_channel version l long) ∙ length-take-le 66 l (front_fits version l long))
      (ap₂ (λ (b : List ℕ) (n : ℕ). tally_bytes (tallies_from b) n) tallies_in_lem still_in ∙ in_back small ∙ sym tallies_in_lem)
      ∙ ap₂ ◌++◌ (new_channel version l long) tallies_in_lem

-- ---- a sound seat

module _ (version : ℕ) (l : List ℕ) (long : length_of version ≤ length l) (s : Seat) (own : sound s ≡ true) (front : channel_part l ≡ channel_bytes s.channel)
    (behind : tallies_in version l (queued s) ≡ tally_bytes s.tallies (queued s)) where
  both : (sound_channel s.channel ≡ true) × (add_up s.tallies (queued s) ≡ true)
  both = both_hold (sound_channel s.channel) (add_up s.tallies (queued s)) own

  number : at (channel_part l) received_place ≡ queued s
  unfolding channel_bytes front_bytes
  number = ap (λ (m : List ℕ). at m 33) front

  block : tallies_in version l (at (channel_part l) received_place) ≡ tally_bytes s.tallies (queued s)
  block = ap (tallies_in version l) number ∙ behind

  fine : tallies_good (tally_bytes s.tallies (queued s)) (queued s) ≡ true
  unfolding tallies_good
  fine =
      ap₂ ◌&&◌ (ap₂ add_up (tallies_back s.tallies (queued s)) (still_back s.tallies (queued s)) ∙ both.1)
      (eq-eqb _ _ (still_back s.tallies (queued s)))

  -- ticket 2: "A bench read back answers every later event as the saved one": each seat is the same seat
  pub found_as : found version l ≡ Some s
  found_as =
      let good : record_good (new_record version l) ≡ true
      = new_good version l long ∙ ap₂ ◌&&◌ (ap channel_good front ∙ written.sound_good s.channel both.0) (ap₂ tallies_good block number ∙ fine) in
      found_good version l long good ∙ ap Some (new_seat version l long)
      ∙ (λ i. Some (record {
        tallies = (ap tallies_from block ∙ tallies_back s.tallies (queued s)) i;
        channel = (ap channel_from front ∙ written.read_back s.channel both.0) i;
      }))

-- in its own record, whatever stands behind it
pub found_written : (s : Seat) (rest : List ℕ) → sound s ≡ true → found 2 (record_of s ++ rest) ≡ Some s
unfolding record_of
found_written s rest own =
    let c = channel_bytes s.channel in
    let t = tally_bytes s.tallies (queued s) in
    let apart = append_assoc c t rest in
    let long : length_of 2 ≤ length ((c ++ t) ++ rest)
    = omega (arith, pick_true {A = ℕ} (has_tallies 2) 86 66 refl, length-append (c ++ t) rest, length-append c t, channel_length_lem s.channel, tally_length s.tallies (queued s)) in
    found_as 2 ((c ++ t) ++ rest) long s own (ap (take 66) apart ∙ take_at c (t ++ rest) 66 (channel_length_lem s.channel))
    (has_own 2 ((c ++ t) ++ rest) (queued s) refl
    ∙ ap (λ (l : List ℕ). take 20 (drop 66 l)) apart
    ∙ ap (take 20) (drop_at c (t ++ rest) 66 (channel_length_lem s.channel))
    ∙ take_at t rest 20 (tally_length s.tallies (queued s)))

-- ---- version 1

queued_few : (c : Channel) → sound_channel c ≡ true → c.receiver.queue.count ≤ 16
unfolding channel_bytes front_bytes
queued_few c own = (good_fields (channel_bytes c) (written.sound_good c own)).received

pub queued_adds_up : (n : ℕ) → n ≤ largest → add_up (queued_only n) n ≡ true
unfolding add_up
queued_adds_up n few = ap₂ ◌&&◌ (eq-eqb (0 + 0 + 0 + n) n (omega arith)) (le-leb n largest (omega (arith, few)))

-- what version 1 leaves unsaid is told
pub older_told : (n : ℕ) → n ≤ largest → tallies_told (tally_bytes (queued_only n) n) n ≡ Some (queued_only n)
unfolding tallies_told tallies_good
older_told n few =
    pick_true _ _ _
    (ap₂ ◌&&◌ (ap₂ add_up (tallies_back (queued_only n) n) (still_back (queued_only n) n) ∙ queued_adds_up n few)
    (eq-eqb _ _ (still_back (queued_only n) n)))
    ∙ ap Some (tallies_back (queued_only n) n)

pub found_older : (c : Channel) (rest : List ℕ) → sound_channel c ≡ true
    → found 1 (channel_bytes c ++ rest) ≡ Some (record { tallies = queued_only c.receiver.queue.count; channel = c })
found_older c rest own =
    let long : length_of 1 ≤ length (channel_bytes c ++ rest)
    = omega (arith, pick_false {A = ℕ} (has_tallies 1) 86 66 refl, length-append (channel_bytes c) rest, channel_length_lem c) in
    let n = c.receiver.queue.count in
    found_as 1 (channel_bytes c ++ rest) long (record { tallies = queued_only n; channel = c })
    (ap₂ ◌&&◌ own (queued_adds_up n (omega (arith, queued_few c own))))
    (take_at (channel_bytes c) rest 66 (channel_length_lem c))
    (has_none 1 (channel_bytes c ++ rest) n refl)
