-- The image of a valid bench is read back as that bench, over whatever bench it is read.
use Prim.Native.Nat.{ℕ, zero, suc, ◌+◌, ◌*◌, ◌%◌, ◌<◌, ◌≤◌}
use Rattle.std.proofs.Math.Bool.{true, ◌&&◌}
use mathlib.Core.List.{List, [], ◌∷◌, ◌++◌, append_assoc}
use Rattle.std.proofs.Math.Logic.{⊎_elim}
use Rattle.std.specs.Prelude.{◌≡◌, eqb, leb, ltb, length, get_or, take, drop, Option, Some, is_some, unwrap_or}
use Rattle.std.proofs.Math.Path.{refl, ap, ap₂, sym}
use Rattle.std.proofs.Common.{◌∙◌, le_of_suc-le-suc, not-suc-le-zero, eq-or-lt_of_le, arith, length-append, drop_at, length-take-le}
use Rattle.std.proofs.lemmas.List.Edits.{sets, sets-eq}
use Rattle.std.proofs.Math.Seq.{drop-append-add}
use borrow.Author.Tests.{le-leb, leb-true, ltb-true}
use Rattle.base.specs.declared.Answer.TheVariants.{Done}
use Rattle.base.specs.Every.{every}
use Rattle.base.specs.EveryLaws.{every_from}
use Rattle.base.specs.ListLaws.{listed, listed_same, written_out}
use Rattle.base.specs.PickLaws.{both_hold}
use Rattle.seat.specs.declared.Seat.{Seat}
use Rattle.seat.specs.Seats.{no_seat, power_up}
use Rattle.seat.specs.Sound.{sound}
use Rattle.controller.specs.declared.Controller.{Controller}
use Rattle.controller.specs.Valid.{latches_high}
use Rattle.controller.specs.Valid as controller
use Rattle.records.specs.Events.{seat_count}
use Rattle.bench.specs.declared.Bench.{Bench}
use Rattle.bench.specs.Seats.{lines}
use Rattle.bench.specs.Valid.{sound_seats, valid}
use Rattle.bench.proofs.ValidLaws as bench
use Rattle.seat_image.specs.Written.{record_length}
use Rattle.seat_image.specs.Read.{found}
use Rattle.seat_image.specs.Written.{record_of}
use Rattle.channel_image.proofs.WrittenLaws.{digit_yes, digit_small}
use Rattle.seat_image.proofs.BackLaws.{found_written}
use Rattle.image.specs.Layout.{header_length, image_length, length_in, version_of, place_in}
use Rattle.image.specs.PlaceLaws.{place_with}
use Rattle.image.specs.Read.{record_at, seat_at, good_at, seats_in, seats_good, controller_from, bench_from}
use Rattle.image.specs.RefusalLaws.{header_taken, restored_good}
use Rattle.image.specs.Refusals.{marked, known, controller_in_range, latches_allowed, image_good, restored}
use Rattle.image.specs.Written.{newest, header, controller_bytes, records_of, image_of}
use Rattle.image.specs.WrittenLaws.{records_length, image_length_lem}

-- ---- a seat among the records

sound_at : (l : List Seat) (k : ℕ) → sound_seats l ≡ true → k < length l → sound (get_or l k no_seat) ≡ true
unfolding sound_seats
sound_at [] k all below = absurd (not-suc-le-zero below)
sound_at (s ∷ l) zero all below = (both_hold (sound s) (sound_seats l) all).0
sound_at (s ∷ l) (suc k) all below = sound_at l k (both_hold (sound s) (sound_seats l) all).1 (le_of_suc-le-suc below)

module _ (seats : List Seat) (k : ℕ) (own : sound (get_or seats k no_seat) ≡ true) where
  found_among : (n : ℕ) (rest : List ℕ) → k < n
      → found newest (drop (record_length * k) (records_of n seats ++ rest)) ≡ Some (get_or seats k no_seat)
  unfolding records_of
  found_among zero rest below = absurd (not-suc-le-zero below)
  found_among (suc n) rest below =
      ap (λ (l : List ℕ). found newest (drop (record_length * k) l)) (append_assoc (records_of n seats) (record_of (get_or seats n no_seat)) rest)
      ∙ ⊎_elim
      (λ (e : k ≡ n).
      ap (λ (j : ℕ). found newest (drop (record_length * k) (records_of n seats ++ (record_of (get_or seats j no_seat) ++ rest)))) (sym e)
      ∙ ap (found newest)
      (drop_at (records_of n seats) (record_of (get_or seats k no_seat) ++ rest) (record_length * k)
      (records_length n seats ∙ ap (λ (j : ℕ). record_length * j) (sym e)))
      ∙ found_written (get_or seats k no_seat) rest own)
      (λ (less : k < n). found_among n (record_of (get_or seats n no_seat) ++ rest) less)
      (eq-or-lt_of_le (le_of_suc-le-suc below))

-- ---- the controller

controller_back : (c : Controller) (levels : ℕ) → c.lines.levels ≡ levels → controller_from (controller_bytes c) levels ≡ c
unfolding controller_from controller_bytes
controller_back c levels same =
    λ i. record {
      lines = record { levels = sym same i; latches = c.lines.latches };
      setup =
          record {
            stage = c.setup.stage;
            level = digit_yes c.setup.level i;
            base = c.setup.base;
            automatic = digit_yes c.setup.automatic i;
          };
      operation =
          record {
            mask = c.operation.mask;
            service = c.operation.service;
            first = c.operation.first;
            rotation = digit_yes c.operation.rotation i;
            special = digit_yes c.operation.special i;
            selected = digit_yes c.operation.selected i;
          };
    }

-- the parts of a sound controller, each as a fact
pub record Sound (c : Controller) : Type 0 where
  pub base : eqb (c.setup.base % 8) 0 ≡ true
  pub first : c.operation.first < 8
  pub stage : c.setup.stage ≤ 3
  pub latches : latches_high c.lines ≡ true

pub controller_parts : (c : Controller) → controller.valid c ≡ true → Sound c
unfolding controller.valid
controller_parts c all =
    let a = eqb (c.setup.base % 8) 0 in
    let b = ltb c.operation.first 8 in
    let d = leb c.setup.stage 3 in
    let three = both_hold (a && b && d) (latches_high c.lines) all in
    let two = both_hold (a && b) d three.0 in
    let one = both_hold a b two.0 in
    record { base = one.0; first = ltb-true _ _ one.1; stage = leb-true _ _ two.1; latches = three.1 }

-- ---- the bench

module _ (b : Bench) (v : valid b ≡ true) (rest : List ℕ) where
  parts : bench.Sound b
  parts = bench.parts b v

  version : version_of (image_of b ++ rest) ≡ newest
  unfolding image_of version_of controller_bytes
  version = refl

  read_at : (k : ℕ) → k < seat_count → record_at (image_of b ++ rest) k ≡ Some (get_or b.seats k no_seat)
  unfolding image_of controller_bytes
  read_at k below =
      ap (λ (v : ℕ). found v (drop (place_in v k) (image_of b ++ rest))) version
      ∙ ap (λ (n : ℕ). found newest (drop n (image_of b ++ rest))) (place_with newest k refl)
      ∙ ap (found newest) (drop-append-add (header ++ controller_bytes b.controller) (records_of seat_count b.seats ++ rest) (record_length * k))
      ∙ found_among b.seats k (sound_at b.seats k parts.seats (omega (arith, parts.wired.all))) seat_count rest below

  seats_back : listed seat_count (seat_at (image_of b ++ rest)) ≡ b.seats
  seats_back =
      listed_same seat_count (seat_at (image_of b ++ rest)) (λ k. get_or b.seats k no_seat) (λ k below. ap (λ (o : Option Seat). unwrap_or o power_up) (read_at k below))
      ∙ written_out seat_count b.seats no_seat parts.wired.all

  bench_back : bench_from (image_of b ++ rest) ≡ b
  unfolding image_of bench_from seats_in controller_bytes
  bench_back =
      λ i. record {
        seats = seats_back i;
        controller =
            (ap (λ (s : List Seat). controller_from (controller_bytes b.controller) (lines s)) seats_back
            ∙ controller_back b.controller (lines b.seats) parts.wired.levels) i;
      }

  good_back : image_good (image_of b ++ rest) ≡ true
  unfolding image_of image_good seats_in seats_good controller_in_range latches_allowed controller_bytes
  good_back =
      let c = b.controller in
      let s = controller_parts c parts.controller in
      let each : every seat_count (good_at (image_of b ++ rest)) ≡ true
      = every_from seat_count (good_at (image_of b ++ rest)) (λ k below. ap is_some (read_at k below)) in
      let own : controller_in_range (controller_bytes c) ≡ true
      = simp (le-leb c.setup.stage 3 s.stage, s.base, le-leb c.operation.first 7 (omega (arith, s.first)), digit_small) in
      let high : latches_high (record { levels = lines (listed seat_count (seat_at (image_of b ++ rest))); latches = c.lines.latches }) ≡ true
      = ap (λ (n : ℕ). latches_high (record { levels = n; latches = c.lines.latches })) (ap lines seats_back ∙ sym parts.wired.levels)
      ∙ s.latches in
      ap₂ ◌&&◌ (ap₂ ◌&&◌ each own) high

  image_long : length_in (version_of (image_of b ++ rest)) ≤ length (image_of b ++ rest)
  image_long = omega (arith, length-append (image_of b) rest, image_length_lem b, ap length_in version, place_with newest seat_count refl)

  five : header_length ≤ length (image_of b ++ rest)
  five = omega (arith, length-append (image_of b) rest, image_length_lem b)

  marked_back : (marked (image_of b ++ rest) ≡ true) × (known (version_of (image_of b ++ rest)) ≡ true)
  unfolding image_of marked version_of controller_bytes
  marked_back = (refl, refl)

  -- ticket 2: "A bench read back answers every later event as the saved one": it is the saved one
  pub restored_saved : (before : Bench) → restored before (image_of b ++ rest) ≡ record { bench = b; answer = Done }
  restored_saved before =
      restored_good before (image_of b ++ rest)
      (header_taken (image_of b ++ rest) five marked_back.0 marked_back.1 image_long) good_back
      ∙ (λ i. record { bench = bench_back i; answer = Done })

-- and so where it stands in a buffer, at the place at which it was saved
pub restored_buffer : (b before : Bench) (l : List ℕ) (at : ℕ) → valid b ≡ true → at + image_length ≤ length l
    → restored before (drop at (sets l at (image_of b))) ≡ record { bench = b; answer = Done }
restored_buffer b before l at v fits =
    let room : at + length (image_of b) ≤ length l = omega (arith, image_length_lem b) in
    let there : drop at (sets l at (image_of b)) ≡ image_of b ++ drop (at + length (image_of b)) l
    = ap (drop at) (sets-eq (image_of b) l at room ∙ append_assoc (take at l) (image_of b) _)
    ∙ drop_at (take at l) _ at (length-take-le at l (omega arith)) in
    ap (restored before) there ∙ restored_saved b v (drop (at + length (image_of b)) l) before
