-- An image that is taken: the bench is a valid one, and is written back as the same bytes.
use Prim.Native.Nat.{ℕ, zero, suc, ◌+◌, ◌*◌, ◌%◌, ◌<◌, ◌≤◌}
use Rattle.std.specs.Prelude.{true, false, not, ◌≡◌, length, drop}
use Rattle.std.proofs.Math.Bool.{◌&&◌}
use mathlib.Core.List.{List, [], ◌∷◌, ◌++◌}
use Rattle.std.proofs.Math.Path.{refl, ap, ap₂, sym}
use Rattle.std.proofs.Common.{◌∙◌, drop-drop, take-add}
use native.Mathlib.Omega.{arith}
use Rattle.std.proofs.Math.Dec.{eqb, leb, ltb}
use Rattle.std.proofs.Math.ListN.{take}
use Rattle.std.proofs.Math.Seq.{get_or-drop}
use borrow.Author.Tests.{eqb-true, eq-eqb, le-leb, lt-ltb, ltb-false, not-true, not-false}
use Rattle.base.specs.declared.Answer.TheVariants.{Done, Refused}
use Rattle.base.specs.ListLaws.{listed, listed_length, listed_at}
use Rattle.base.specs.PickLaws.{pick_true, pick_false, both_hold}
use Rattle.base.specs.RefusalLaws.{none_held}
use Rattle.seat.specs.declared.Seat.{Seat}
use Rattle.seat.specs.Seats.{no_seat}
use Rattle.seat.specs.Sound.{sound}
use Rattle.controller.specs.Valid as controller
use Rattle.records.specs.Events.{seat_count}
use Rattle.bench.specs.declared.Bench.{Bench}
use Rattle.bench.specs.Seats.{lines}
use Rattle.bench.specs.Valid.{sound_seats, valid}
use Rattle.bench.proofs.ValidLaws as bench
use Rattle.channel_image.specs.Places.{at}
use Rattle.seat_image.specs.Written.{record_length}
use Rattle.channel_image.proofs.ReadLaws.{yes_digit}
use Rattle.channel_image.specs.Fields.{byte_at}
use Rattle.seat_image.proofs.BackLaws.{new_back, good_sound}
use Rattle.seat_image.specs.Read.{has_tallies, new_record}
use Rattle.seat_image.specs.ReadLaws.{whole}
use Rattle.seat_image.specs.Written.{record_of}
use Rattle.image.proofs.FieldLaws.{front_written, image_fields, well_at, block_written, three}
use Rattle.image.specs.Fields.{ImageFields}
use Rattle.image.specs.Layout.{image_length, length_in, version_of, place_in, stretch, controller_part, record_place}
use Rattle.image.specs.PlaceLaws.{place_with, front_inside}
use Rattle.image.specs.Read.{seat_at, seats_in, controller_from, bench_from}
use Rattle.image.specs.RefusalLaws.{Header}
use Rattle.image.specs.Refusals.{marked, known, grounds, latches_allowed, image_good, refusal, restored}
use Rattle.image.specs.Written.{newest, header, controller_bytes, records_of, image_of}

-- what an image that is taken is
pub record Taken (p : List ℕ) : Type 0 where
  pub header : Header p
  pub good : image_good p ≡ true

-- and these are all that are taken
pub taken_of : (p : List ℕ) → refusal p ≡ 0 → Taken p
unfolding refusal
taken_of p none =
    let all = sym (none_held (grounds p) refl) ∙ eq-eqb _ 0 none in
    let four = (both_hold (not (ltb (length p) 5)) _ all).1 in
    let three = both_hold (not (not (marked p))) _ four in
    let two = both_hold (not (not (known (version_of p)))) _ three.1 in
    let one = both_hold (not (ltb (length p) (length_in (version_of p)))) _ two.1 in
    let last = both_hold (not (not (image_good p))) true one.1 in
    record {
      header =
          record {
            mark = not-false _ (not-true _ three.0);
            version = not-false _ (not-true _ two.0);
            long = ltb-false _ _ (not-true _ one.0);
          };
      good = not-false _ (not-true _ last.0);
    }

pub restored_taken : (b : Bench) (p : List ℕ) → refusal p ≡ 0 → restored b p ≡ record { bench = bench_from p; answer = Done }
unfolding restored
restored_taken b p none = pick_true _ _ _ (eq-eqb _ 0 none)

-- ticket 2: "each leaves buffer and bench untouched"
pub restored_left : (b : Bench) (p : List ℕ) → eqb (refusal p) 0 ≡ false → restored b p ≡ record { bench = b; answer = Refused (refusal p) }
unfolding restored
restored_left b p some = pick_false _ _ _ some

all_sound : (n : ℕ) (f : ℕ → Seat) → ((k : ℕ) → k < n → sound (f k) ≡ true) → sound_seats (listed n f) ≡ true
unfolding sound_seats
all_sound zero f each = refl
all_sound (suc n) f each = rw (each zero (omega arith)) (all_sound n (λ k. f (suc k)) (λ k below. each (suc k) (omega arith)))

module _ (p : List ℕ) (t : Taken p) where
  long : length_in (version_of p) ≤ length p
  long = t.header.long

  fields : ImageFields p
  fields = image_fields p long t.good

  -- ---- the records

  -- a seat's record is written as it reads in the newest version
  pub record_back : (has_tallies (version_of p) ≡ true → (j : ℕ) → byte_at p j < 256) → (k : ℕ) → k < seat_count → record_of (seat_at p k) ≡ stretch p k
  unfolding stretch
  record_back small k below =
      let w = well_at p long t.good k below in
      let place = place_in (version_of p) k in
      ap record_of w.seat
      ∙ new_back (version_of p) (drop place p) w.long w.good (λ has j. omega (arith, small has (place + j), get_or-drop place p j 0))

  module _ (version : version_of p ≡ newest) (small : (j : ℕ) → byte_at p j < 256) where
    as_it_stands : (k : ℕ) → stretch p k ≡ take record_length (drop (record_place k) p)
    unfolding stretch
    as_it_stands k =
        ap (λ (v : ℕ). new_record v (drop (place_in v k) p)) version ∙ whole (drop (place_in newest k) p)
        ∙ ap (λ (n : ℕ). take record_length (drop n p)) (place_with newest k refl)

    records_back : (n : ℕ) → n ≤ seat_count → records_of n (listed seat_count (seat_at p)) ≡ take (record_length * n) (drop 16 p)
    unfolding records_of
    records_back zero few = refl
    records_back (suc n) few =
        let on : record_length * suc n ≡ record_length * n + record_length = omega arith in
        ap₂ ◌++◌ (records_back n (omega (arith, few)))
        (ap record_of (listed_at seat_count (seat_at p) n no_seat few) ∙ record_back (λ has. small) n few ∙ as_it_stands n
        ∙ ap (take record_length) (sym (drop-drop (record_length * n) 16 p)))
        ∙ sym (take-add (record_length * n) record_length (drop 16 p))
        ∙ ap (λ (m : ℕ). take m (drop 16 p)) (sym on)

  -- ---- the controller

  pub controller_back : (levels : ℕ) → controller_bytes (controller_from (controller_part p) levels) ≡ controller_part p
  unfolding controller_bytes controller_from
  controller_back levels =
      let f = fields in
      ap (λ (l : List ℕ). controller_bytes (controller_from l levels)) (sym (block_written p long))
      ∙ rw (
        yes_digit (at p 6) f.level,
        yes_digit (at p 11) f.special,
        yes_digit (at p 12) f.automatic,
        yes_digit (at p 13) f.rotation,
        yes_digit (at p 14) f.selected,
      )
      (block_written p long)

  -- ---- the header

  header_back : version_of p ≡ newest → header ≡ take 5 p
  unfolding marked version_of
  header_back version =
      let two = both_hold (eqb (at p 0) 0x42 && eqb (at p 1) 0x45) (eqb (at p 2) 0x4E) t.header.mark in
      let one = both_hold (eqb (at p 0) 0x42) (eqb (at p 1) 0x45) two.0 in
      let b0 : at p 0 ≡ 0x42 = eqb-true (at p 0) 0x42 one.0 in
      let b1 : at p 1 ≡ 0x45 = eqb-true (at p 1) 0x45 one.1 in
      let b2 : at p 2 ≡ 0x4E = eqb-true (at p 2) 0x4E two.1 in
      let b3 : at p 3 ≡ 2 = omega (arith, version) in
      let b4 : at p 4 ≡ 0 = omega (arith, version) in
      (λ i. sym b0 i ∷ sym b1 i ∷ sym b2 i ∷ sym b3 i ∷ sym b4 i ∷ []) ∙ front_written 5 p (omega (arith, long, front_inside (version_of p) 8))

  -- an image of the newest version, read and written again, is the same bytes
  pub saved_restored : version_of p ≡ newest → ((j : ℕ) → byte_at p j < 256) → image_of (bench_from p) ≡ take image_length p
  unfolding image_of bench_from seats_in
  saved_restored version small =
      ap₂ ◌++◌ (ap₂ ◌++◌ (header_back version) (controller_back (lines (listed seat_count (seat_at p))))) (records_back version small seat_count (omega arith))
      ∙ ap₂ ◌++◌ (sym (take-add 5 11 p)) refl
      ∙ sym (take-add 16 (record_length * seat_count) p)

  -- ---- the bench

  seats_sound : sound_seats (listed seat_count (seat_at p)) ≡ true
  seats_sound =
      all_sound seat_count (seat_at p)
      (λ k below.
      let w = well_at p long t.good k below in
      ap sound w.seat ∙ good_sound _ w.good)

  -- it is valid
  pub restored_valid : valid (bench_from p) ≡ true
  unfolding bench_from seats_in controller_from controller.valid latches_allowed
  restored_valid =
      let f = fields in
      let block = block_written p long in
      bench.whole (bench_from p)
      (record {
        wired = record { all = listed_length seat_count (seat_at p); levels = refl };
        controller =
            ap₂ ◌&&◌
            (ap₂ ◌&&◌
            (ap₂ ◌&&◌
            (ap (λ (l : List ℕ). eqb (at l 2 % 8) 0) (sym block) ∙ eq-eqb _ _ f.base)
            (ap (λ (l : List ℕ). ltb (at l 3) 8) (sym block) ∙ lt-ltb (at p 8) 8 (omega (arith, f.first))))
            (ap (λ (l : List ℕ). leb (at l 0) 3) (sym block) ∙ le-leb _ _ f.stage))
            (three p long t.good).1.1;
        seats = seats_sound;
      })

  -- a restore sets no edge: the latches are the image's byte, whatever the lines were, and the lines are those of the seats just read
  pub no_edge : (bench_from p).controller.lines ≡ record { levels = lines (bench_from p).seats; latches = at p 15 }
  unfolding bench_from controller_from
  no_edge = λ i. record { levels = lines (seats_in p); latches = ap (λ (l : List ℕ). at l 10) (sym (block_written p long)) i }
