-- What is found in a lent part, case by case as the reader meets them.
use Rattle.std.specs.Prelude.{ℕ, ◌-◌, ◌<◌, ◌≤◌, Bool, false, List, ◌++◌, ◌⊎◌, ◌≡◌, refl, leb, take, drop, Some, None}
use Rattle.std.proofs.Math.Bool.{true, ◌&&◌}
use Rattle.std.proofs.Common.{inl, inr, ap₂, sym, ◌∙◌, arith, length-drop, drop_at, take-add, length-take-le}
use Rattle.std.proofs.Math.Logic.{⊎_elim}
use Rattle.std.proofs.Math.Path.{ap}
use Rattle.std.proofs.Math.ListN.{length, length-append}
use Rattle.std.proofs.Math.Seq.{take_at, take_all}
use Rattle.std.proofs.lemmas.List.{take-append-le, drop-append-le}
use borrow.Author.Tests.{le-leb, lt-leb, leb-true}
use Rattle.base.specs.PickLaws.{pick_true, pick_false, both_hold, either_way}
use Rattle.channel.specs.declared.Channel.{Channel}
use Rattle.channel_image.specs.FoundLaws.{some_picked, none_picked}
use Rattle.channel_image.specs.Allowed.{channel_good}
use Rattle.channel_image.specs.Places.{at, channel_length, received_place}
use Rattle.channel_image.specs.Read as first
use Rattle.channel_image.specs.Read.{channel_from, receiver_from}
use Rattle.channel_image.specs.Written as first-written
use Rattle.channel_image.proofs.ReadLaws as first-laws
use Rattle.seat.specs.declared.Seat.{Seat}
use Rattle.seat.specs.declared.Tallies.{Tallies}
use Rattle.seat_image.specs.Read.{has_tallies, length_of, channel_part, tally_part, queued_only, tallies_in, new_record}
use Rattle.seat_image.specs.Read.{tallies_from, tallies_good, tallies_told, seat_from, record_good, found}
use Rattle.seat_image.specs.WordLaws.{tally_length}
use Rattle.seat_image.specs.Written.{record_length, tally_bytes}

-- a part that is lent to its end
pub lent_to_end : (at : ℕ) (l : List ℕ) → take (length l - at) (drop at l) ≡ drop at l
lent_to_end at l = take_all (length l - at) (drop at l) (omega (arith, length-drop at l))

module _ (version : ℕ) (l : List ℕ) (still : ℕ) where
  pub has_own : has_tallies version ≡ true → tallies_in version l still ≡ tally_part l
  unfolding tallies_in
  has_own holds = pick_true _ _ _ holds

  pub has_none : has_tallies version ≡ false → tallies_in version l still ≡ tally_bytes (queued_only still) still
  unfolding tallies_in
  has_none none = pick_false _ _ _ none

module _ (version : ℕ) (l : List ℕ) where
  pub found_short : length l < length_of version → found version l ≡ None
  unfolding found
  found_short short =
      pick_false _ _ _ (ap (λ (b : Bool). b && record_good (new_record version l)) (lt-leb (length_of version) (length l) short))

-- ---- with room for a record of the version

module _ (version : ℕ) (l : List ℕ) (long : length_of version ≤ length l) where
  pub front_fits : channel_length ≤ length l
  front_fits =
      ⊎_elim (λ (h : has_tallies version ≡ true). omega (arith, long, pick_true (has_tallies version) record_length channel_length h))
      (λ (h : has_tallies version ≡ false). omega (arith, long, pick_false (has_tallies version) record_length channel_length h))
      (either_way (has_tallies version))

  tallies_length : (still : ℕ) → length (tallies_in version l still) ≡ 20
  tallies_length still =
      ⊎_elim
      (λ (h : has_tallies version ≡ true).
      ap length (has_own version l still h)
      ∙ length-take-le 20 (drop 66 l) (omega (arith, length-drop 66 l, long, pick_true (has_tallies version) record_length channel_length h)))
      (λ (h : has_tallies version ≡ false). ap length (has_none version l still h) ∙ tally_length (queued_only still) still)
      (either_way (has_tallies version))

  still : ℕ
  still = at (channel_part l) received_place

  pub new_channel : channel_part (new_record version l) ≡ channel_part l
  unfolding new_record
  new_channel = take_at (channel_part l) _ channel_length (length-take-le channel_length l front_fits)

  pub new_tallies : tally_part (new_record version l) ≡ tallies_in version l (at (channel_part l) received_place)
  unfolding new_record still
  new_tallies =
      ap (take 20) (drop_at (channel_part l) (tallies_in version l still) channel_length (length-take-le channel_length l front_fits))
      ∙ take_all 20 (tallies_in version l still) (omega (arith, tallies_length still))

  pub new_good : record_good (new_record version l)
      ≡ (channel_good (channel_part l) && tallies_good (tallies_in version l (at (channel_part l) received_place)) (at (channel_part l) received_place))
  unfolding record_good
  new_good = rw (new_channel, new_tallies)

  pub new_seat : seat_from (new_record version l)
      ≡ record { tallies = tallies_from (tallies_in version l (at (channel_part l) received_place)); channel = channel_from (channel_part l) }
  unfolding seat_from
  new_seat = λ i. record { tallies = tallies_from (new_tallies i); channel = channel_from (new_channel i) }

  room : leb (length_of version) (length l) ≡ true
  room = le-leb (length_of version) (length l) long

  none_good : record_good (new_record version l) ≡ false → found version l ≡ None
  unfolding found
  none_good bad = pick_false _ _ _ (ap₂ ◌&&◌ room bad)

  pub found_good : record_good (new_record version l) ≡ true → found version l ≡ Some (seat_from (new_record version l))
  unfolding found
  found_good good = pick_true _ _ _ (ap₂ ◌&&◌ room good)

  -- ---- after the channel's reader

  pub no_channel : first.found l ≡ None → found version l ≡ None
  unfolding first.found
  no_channel none =
      let fails = none_picked (first-written.has_room l && channel_good (channel_part l)) (channel_from (channel_part l)) none in
      let bad : channel_good (channel_part l) ≡ false
      = sym (ap (λ (b : Bool). b && channel_good (channel_part l)) (le-leb channel_length (length l) front_fits)) ∙ fails in
      none_good (new_good ∙ rw bad)

  module _ (c : Channel) (given : first.found l ≡ Some c) where
    well : first-laws.Well l c
    well = first-laws.found_well l c given

    same : c ≡ channel_from (channel_part l)
    same = sym well.channel

    count : c.receiver.queue.count ≡ at (channel_part l) received_place
    unfolding channel_from receiver_from
    count = ap (λ (d : Channel). d.receiver.queue.count) same

    good_as : (b : Bool) → tallies_good (tallies_in version l c.receiver.queue.count) c.receiver.queue.count ≡ b → record_good (new_record version l) ≡ b
    good_as b is = new_good ∙ ap₂ ◌&&◌ well.good (ap (λ (n : ℕ). tallies_good (tallies_in version l n) n) (sym count) ∙ is)

    pub tallies_bad : tallies_good (tallies_in version l c.receiver.queue.count) c.receiver.queue.count ≡ false → found version l ≡ None
    tallies_bad bad = none_good (good_as false bad)

    pub no_tallies : tallies_told (tallies_in version l c.receiver.queue.count) c.receiver.queue.count ≡ None → found version l ≡ None
    unfolding tallies_told
    no_tallies none = tallies_bad (none_picked (tallies_good (tallies_in version l c.receiver.queue.count) c.receiver.queue.count) _ none)

    pub tallies_well : tallies_good (tallies_in version l c.receiver.queue.count) c.receiver.queue.count ≡ true
        → found version l ≡ Some (record { tallies = tallies_from (tallies_in version l c.receiver.queue.count); channel = c })
    tallies_well fine =
        found_good (good_as true fine) ∙ ap Some new_seat
        ∙ (λ i. Some (record { tallies = tallies_from (tallies_in version l (sym count i)); channel = sym same i }))

    pub with_tallies : (t : Tallies) → tallies_told (tallies_in version l c.receiver.queue.count) c.receiver.queue.count ≡ Some t
        → found version l ≡ Some (record { tallies = t; channel = c })
    unfolding tallies_told
    with_tallies t told =
        let some = some_picked (tallies_good (tallies_in version l c.receiver.queue.count) c.receiver.queue.count) _ t told in
        tallies_well some.0 ∙ (λ i. Some (record { tallies = some.1 i; channel = c }))

-- ---- a record, and what stands behind it

-- of the newest version it is as it stands
pub whole : (l : List ℕ) → new_record 2 l ≡ take 86 l
unfolding new_record
whole l = ap (λ (b : List ℕ). take 66 l ++ b) (has_own 2 l _ refl) ∙ sym (take-add 66 20 l)

module _ (version : ℕ) (l rest : List ℕ) (long : length_of version ≤ length l) where
  front_same : channel_part (l ++ rest) ≡ channel_part l
  front_same = take-append-le 66 l rest (front_fits version l long)

  tallies_same : (still : ℕ) → tallies_in version (l ++ rest) still ≡ tallies_in version l still
  tallies_same still = by (either_way (has_tallies version))
    where
      by : (has_tallies version ≡ true) ⊎ (has_tallies version ≡ false) → tallies_in version (l ++ rest) still ≡ tallies_in version l still
      by (inl h) =
          let fits : record_length ≤ length l = omega (arith, long, pick_true (has_tallies version) record_length channel_length h) in
          has_own version (l ++ rest) still h
          ∙ ap (take 20) (drop-append-le 66 l rest (omega (arith, fits)))
          ∙ take-append-le 20 (drop 66 l) rest (omega (arith, fits, length-drop 66 l))
          ∙ sym (has_own version l still h)
      by (inr h) = has_none version (l ++ rest) still h ∙ sym (has_none version l still h)

  pub found_front : found version (l ++ rest) ≡ found version l
  unfolding found new_record
  found_front =
      let more : length_of version ≤ length (l ++ rest) = omega (arith, length-append l rest, long) in
      rw (front_same, tallies_same, le-leb (length_of version) (length (l ++ rest)) more, le-leb (length_of version) (length l) long)

-- ---- what was found

pub record Well (version : ℕ) (l : List ℕ) (s : Seat) : Type 0 where
  pub long : length_of version ≤ length l
  pub good : record_good (new_record version l) ≡ true
  pub seat : s ≡ seat_from (new_record version l)

pub found_well : (version : ℕ) (l : List ℕ) (s : Seat) → found version l ≡ Some s → Well version l s
unfolding found
found_well version l s said =
    let some = some_picked (leb (length_of version) (length l) && record_good (new_record version l)) (seat_from (new_record version l)) s said in
    let two = both_hold (leb (length_of version) (length l)) (record_good (new_record version l)) some.0 in
    record { long = leb-true _ _ two.0; good = two.1; seat = sym some.1 }
