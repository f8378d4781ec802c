-- An image is good exactly if it has each row of its fields.
use Rattle.std.specs.Prelude.{ℕ, zero, suc, ◌+◌, ◌%◌, ◌<◌, ◌≤◌, Bool, false, ◌||◌, List, [], ◌∷◌, ◌≡◌, length, take, drop, Option, is_some, unwrap_or}
use Rattle.std.proofs.Math.Bool.{true, not, ◌&&◌, or-true}
use Rattle.std.proofs.Math.Logic.{⊎_elim}
use Rattle.std.proofs.Math.Path.{refl, ap, ap₂, sym}
use Rattle.std.proofs.Common.{◌∙◌, le_of_suc-le-suc, not-suc-le-zero, arith, length-drop, get_or-drop}
use Rattle.std.proofs.Math.Dec.{eqb, leb}
use Rattle.std.proofs.Math.ListN.{get_or}
use borrow.Author.Tests.{eqb-true, eq-eqb, le-leb, leb-true}
use Rattle.base.specs.Bits.{bit}
use Rattle.base.specs.Every.{every}
use Rattle.base.specs.EveryLaws.{every_each, every_from}
use Rattle.base.specs.ListLaws.{listed, listed_length, listed_at, listed_same}
use Rattle.base.specs.PickLaws.{both_hold, either_way}
use Rattle.seat.specs.declared.Seat.{Seat}
use Rattle.seat.specs.Seats.{no_seat, line, power_up}
use Rattle.rank.specs.Sets.{has}
use Rattle.rank.specs.Sets as sets
use Rattle.controller.specs.State as controller
use Rattle.controller.specs.Valid.{latches_high}
use Rattle.records.specs.Events.{seat_count}
use Rattle.bench.specs.declared.Bench.{Bench}
use Rattle.bench.specs.FrameLaws.{chair_own}
use Rattle.bench.proofs.HeardLaws.{line_of_seat}
use Rattle.bench.specs.Seats.{seat, lines}
use Rattle.seat_image.proofs.FieldLaws as one
use Rattle.channel_image.specs.Fields.{byte_at}
use Rattle.channel_image.specs.Places.{at}
use Rattle.seat_image.specs.Read.{length_of, seat_from, record_good}
use Rattle.seat_image.specs.ReadLaws.{Well, found_well, found_good}
use Rattle.image.specs.Fields.{ImageFields, Exactly}
use Rattle.image.specs.Layout.{length_in, version_of, place_in, stretch, controller_part}
use Rattle.image.specs.PlaceLaws.{inside, front_inside}
use Rattle.image.specs.Read.{seat_at, good_at, seats_in, seats_good}
use Rattle.image.specs.ReadLaws.{some_at}
use Rattle.image.specs.Refusals.{controller_in_range, latches_allowed, image_good}

-- ---- a part of a list, written out

pub front_written : (n : ℕ) (l : List ℕ) → n ≤ length l → listed n (at l) ≡ take n l
front_written zero l fits = refl
front_written (suc n) [] fits = absurd (not-suc-le-zero fits)
front_written (suc n) (x ∷ l) fits = ap (λ (r : List ℕ). x ∷ r) (front_written n l (le_of_suc-le-suc fits))

part_written : (from n : ℕ) (l : List ℕ) → from + n ≤ length l → listed n (λ k. at l (from + k)) ≡ take n (drop from l)
part_written from n l fits =
    listed_same n (λ k. at l (from + k)) (at (drop from l)) (λ k below. sym (get_or-drop from l k 0))
    ∙ front_written n (drop from l) (omega (arith, length-drop from l))

module _ (p : List ℕ) (long : length_in (version_of p) ≤ length p) where
  pub block_written : listed 11 (λ k. at p (5 + k)) ≡ controller_part p
  block_written = part_written 5 11 p (omega (arith, long, front_inside (version_of p) 8))

  -- ---- a seat's record

  pub room_at : (n : ℕ) → n < 8 → length_of (version_of p) ≤ length (drop (place_in (version_of p) n) p)
  room_at n below = omega (arith, long, inside (version_of p) n below, length-drop (place_in (version_of p) n) p)

  found_at : (n : ℕ) → n < 8 → record_good (stretch p n) ≡ true → (good_at p n ≡ true) × (seat_at p n ≡ seat_from (stretch p n))
  unfolding stretch
  found_at n below good =
      let taken = found_good (version_of p) (drop (place_in (version_of p) n) p) (room_at n below) good in
      (ap is_some taken, ap (λ (o : Option Seat). unwrap_or o power_up) taken)

  -- ---- the lines

  seats_are : listed seat_count (seat_at p) ≡ seats_in p
  unfolding seats_in
  seats_are = refl

  line_at : (n : ℕ) → n < 8 → has (lines (seats_in p)) n ≡ line (seat_at p n)
  unfolding seats_in seat
  line_at n below =
      let b : Bench = record { seats = listed seat_count (seat_at p); controller = controller.power_up } in
      line_of_seat b n (listed_length seat_count (seat_at p)) below
      ∙ ap line (ap (λ (k : ℕ). get_or (listed seat_count (seat_at p)) k no_seat) (chair_own n below) ∙ listed_at seat_count (seat_at p) n no_seat below)

  latch_byte : at (controller_part p) 10 ≡ byte_at p 15
  latch_byte = ap (λ (l : List ℕ). at l 10) (sym block_written)

  latch_at_lem : (n : ℕ) → n < 8 → has (at (controller_part p) 10) n ≡ bit n (byte_at p 15)
  latch_at_lem n below = ap₂ bit (sets_line n below) latch_byte
    where
      sets_line : (n : ℕ) → n < 8 → sets.line n ≡ n
      sets_line n below = omega (arith, below)

  -- ---- the controller

  block_tests : controller_in_range (controller_part p)
      ≡ (leb (byte_at p 5) 3 && leb (byte_at p 6) 1 && eqb (byte_at p 7 % 8) 0 && leb (byte_at p 8) 7 && leb (byte_at p 11) 1 && leb (byte_at p 12) 1
      && leb (byte_at p 13) 1
      && leb (byte_at p 14) 1)
  unfolding controller_in_range
  block_tests = ap controller_in_range (sym block_written)

  -- ---- both ways

  latches_good : ((n : ℕ) → n < 8 → bit n (byte_at p 15) ≡ true → line (seat_at p n) ≡ true) → latches_allowed p ≡ true
  unfolding latches_allowed latches_high
  latches_good each =
      every_from 8 (λ n. not (has (at (controller_part p) 10) n) || has (lines (seats_in p)) n)
      (λ n below.
      ⊎_elim
      (λ (set : bit n (byte_at p 15) ≡ true).
      ap (λ (b : Bool). not (has (at (controller_part p) 10) n) || b) (line_at n below ∙ each n below set)
      ∙ or-true (not (has (at (controller_part p) 10) n)))
      (λ (clear : bit n (byte_at p 15) ≡ false).
      ap (λ (b : Bool). not b || has (lines (seats_in p)) n) (latch_at_lem n below ∙ clear))
      (either_way (bit n (byte_at p 15))))

  module _ (good : image_good p ≡ true) where
    pub three : (every seat_count (good_at p) ≡ true) × ((controller_in_range (controller_part p) ≡ true) × (latches_allowed p ≡ true))
    unfolding image_good seats_good
    three =
        let two = both_hold (every seat_count (good_at p) && controller_in_range (controller_part p)) (latches_allowed p) good in
        let one = both_hold (every seat_count (good_at p)) (controller_in_range (controller_part p)) two.0 in
        (one.0, (one.1, two.1))

    pub well_at : (n : ℕ) → n < 8 → Well (version_of p) (drop (place_in (version_of p) n) p) (seat_at p n)
    well_at n below =
        found_well (version_of p) (drop (place_in (version_of p) n) p) (seat_at p n) (some_at p n (every_each seat_count (good_at p) three.0 n below))

    latch_high : (n : ℕ) → n < 8 → bit n (byte_at p 15) ≡ true → line (seat_from (stretch p n)) ≡ true
    unfolding latches_allowed latches_high stretch
    latch_high n below set =
        ap line (sym (well_at n below).seat) ∙ sym (line_at n below)
        ∙ sym (ap (λ (b : Bool). not b || has (lines (seats_in p)) n) (latch_at_lem n below ∙ set))
        ∙ every_each 8 (λ n. not (has (at (controller_part p) 10) n) || has (lines (seats_in p)) n) three.1.1 n below

    pub image_fields : ImageFields p
    unfolding stretch
    image_fields =
        let all = sym block_tests ∙ three.1.0 in
        let f5 = leb (byte_at p 5) 3 in
        let f6 = leb (byte_at p 6) 1 in
        let f7 = eqb (byte_at p 7 % 8) 0 in
        let f8 = leb (byte_at p 8) 7 in
        let f11 = leb (byte_at p 11) 1 in
        let f12 = leb (byte_at p 12) 1 in
        let f13 = leb (byte_at p 13) 1 in
        let h7 = both_hold (f5 && f6 && f7 && f8 && f11 && f12 && f13) (leb (byte_at p 14) 1) all in
        let h6 = both_hold (f5 && f6 && f7 && f8 && f11 && f12) f13 h7.0 in
        let h5 = both_hold (f5 && f6 && f7 && f8 && f11) f12 h6.0 in
        let h4 = both_hold (f5 && f6 && f7 && f8) f11 h5.0 in
        let h3 = both_hold (f5 && f6 && f7) f8 h4.0 in
        let h2 = both_hold (f5 && f6) f7 h3.0 in
        let h1 = both_hold f5 f6 h2.0 in
        record {
          stage = leb-true _ _ h1.0;
          level = leb-true _ _ h1.1;
          base = eqb-true _ _ h2.1;
          first = leb-true _ _ h3.1;
          special = leb-true _ _ h4.1;
          automatic = leb-true _ _ h5.1;
          rotation = leb-true _ _ h6.1;
          selected = leb-true _ _ h7.1;
          seats = λ n below. (one.exactly).needed (stretch p n) (well_at n below).good;
          latches = latch_high;
        }

  module _ (f : ImageFields p) where
    good_record : (n : ℕ) → n < 8 → record_good (stretch p n) ≡ true
    good_record n below = (one.exactly).enough (stretch p n) (f.seats n below)

    pub fields_image : image_good p ≡ true
    unfolding image_good seats_good
    fields_image =
        let records : every seat_count (good_at p) ≡ true
        = every_from seat_count (good_at p) (λ n below. (found_at n below (good_record n below)).0) in
        let block : controller_in_range (controller_part p) ≡ true
        = block_tests
        ∙ rw (
          le-leb _ _ f.stage,
          le-leb _ _ f.level,
          eq-eqb _ _ f.base,
          le-leb _ _ f.first,
          le-leb _ _ f.special,
          le-leb _ _ f.automatic,
          le-leb _ _ f.rotation,
          le-leb _ _ f.selected,
        ) in
        ap₂ ◌&&◌ (ap₂ ◌&&◌ records block)
        (latches_good (λ n below set. ap line (found_at n below (good_record n below)).1 ∙ f.latches n below set))

pub exactly : Exactly
exactly = record { needed = image_fields; enough = fields_image }
