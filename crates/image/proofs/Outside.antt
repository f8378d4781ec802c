-- What stands outside an image, and each part of it in its place.
use Prim.Native.Nat.{ℕ, zero, suc, ◌+◌, ◌-◌, ◌*◌, ◌<◌, ◌≤◌}
use mathlib.Core.Bool.{true, false}
use mathlib.Core.List.{List, [], ◌++◌, append_assoc, append-nil}
use mathlib.Core.Logic.{⊎_elim}
use mathlib.Core.Path.{◌≡◌, refl, ap, ap₂, sym, ◌∙◌}
use native.Mathlib.Nat.{le_of_suc-le-suc, not-suc-le-zero, eq-or-lt_of_le}
use native.Mathlib.Omega.{arith}
use lib.Dec.{leb}
use lib.ListN.{length, get_or, take, drop, length-append, length-drop}
use lib.Seq.{sets, sets-eq, take_at, drop_at, drop-append-add, take-append-le, drop-append-le, length-take-le}
use borrow.Author.Tests.{leb-true, le-ltb}
use Rattle.base.specs.declared.Answer.{Answer}
use Rattle.base.specs.Bits.{digit}
use Rattle.base.specs.ListLaws.{listed_at, listed_same}
use Rattle.base.specs.Pick.{pick}
use Rattle.base.specs.PickLaws.{pick_true, pick_false, both_hold, either_way}
use Rattle.base.specs.Refusals.{first_held}
use Rattle.seat.specs.declared.Seat.{Seat}
use Rattle.seat.specs.Seats.{no_seat, power_up}
use Rattle.records.specs.Events.{seat_count}
use Rattle.bench.specs.declared.Bench.{Bench}
use Rattle.std.specs.Prelude.{Option, is_some, unwrap_or}
use Rattle.channel_image.specs.PartLaws.{every_same}
use Rattle.channel_image.specs.Places.{at}
use Rattle.seat_image.specs.Written.{record_length}
use Rattle.seat_image.specs.Read.{found}
use Rattle.seat_image.specs.ReadLaws.{found_front}
use Rattle.channel_image.specs.Written.{front_bytes, channel_bytes}
use Rattle.seat_image.specs.Words.{word_bytes}
use Rattle.seat_image.specs.Written.{tally_bytes, record_of}
use Rattle.seat_image.proofs.BackLaws.{record_length_lem}
use Rattle.image.proofs.FieldLaws.{front_written}
use Rattle.image.specs.Layout.{image_length, length_in, version_of, place_in, controller_part, record_place}
use Rattle.image.specs.PlaceLaws.{inside, front_inside}
use Rattle.image.specs.Read.{record_at, seat_at, good_at, seats_in, seats_good, records_from, bench_from}
use Rattle.image.specs.Refusals.{marked, latches_allowed, image_good, refusal, restored}
use Rattle.image.specs.ThereAndBack.{Placed, PowerUpImage, Outside, Stays}
use Rattle.image.specs.Written.{header, controller_bytes, records_of, image_of, room_for, Saves}
use Rattle.image.specs.WrittenLaws.{records_length, image_length_lem}
use Rattle.image.proofs.Numbering.{save_taken}

-- ---- in its place

module _ (seats : List Seat) (k : ℕ) where
  record_among : (n : ℕ) (rest : List ℕ) → k < n → take record_length (drop (record_length * k) (records_of n seats ++ rest)) ≡ record_of (get_or seats k no_seat)
  unfolding records_of
  record_among zero rest below = absurd (not-suc-le-zero below)
  record_among (suc n) rest below =
      ap (λ (l : List ℕ). take record_length (drop (record_length * k) l)) (append_assoc (records_of n seats) (record_of (get_or seats n no_seat)) rest)
      ∙ ⊎_elim
      (λ (e : k ≡ n).
      ap (λ (j : ℕ). take record_length (drop (record_length * k) (records_of n seats ++ (record_of (get_or seats j no_seat) ++ rest)))) (sym e)
      ∙ ap (take record_length)
      (drop_at (records_of n seats) (record_of (get_or seats k no_seat) ++ rest) (record_length * k)
      (records_length n seats ∙ ap (λ (j : ℕ). record_length * j) (sym e)))
      ∙ take_at (record_of (get_or seats k no_seat)) rest record_length (record_length_lem (get_or seats k no_seat)))
      (λ (less : k < n). record_among n (record_of (get_or seats n no_seat) ++ rest) less)
      (eq-or-lt_of_le (le_of_suc-le-suc below))

pub stretch_at : (b : Bench) (rest : List ℕ) (n : ℕ) → n < seat_count
    → take record_length (drop (record_place n) (image_of b ++ rest)) ≡ record_of (get_or b.seats n no_seat)
unfolding image_of controller_bytes
stretch_at b rest n below =
    ap (take record_length) (drop-append-add (header ++ controller_bytes b.controller) (records_of seat_count b.seats ++ rest) (record_length * n))
    ∙ record_among b.seats n seat_count rest below

pub placed : Placed
unfolding image_of controller_bytes
placed b =
    record {
      whole = image_length_lem b;
      header = refl;
      stage_5 = refl;
      level_6 = refl;
      base_7 = refl;
      first_8 = refl;
      mask_9 = refl;
      service_10 = refl;
      special_11 = refl;
      automatic_12 = refl;
      rotation_13 = refl;
      selected_14 = refl;
      latches_15 = refl;
      seats = λ n below. ap (λ (l : List ℕ). take record_length (drop (record_place n) l)) (sym (append-nil (image_of b))) ∙ stretch_at b [] n below;
    }

pub power_up_image : PowerUpImage
unfolding image_of controller_bytes records_of record_of channel_bytes front_bytes tally_bytes word_bytes digit pick
power_up_image = refl

-- ---- outside

pub stored : (b : Bench) (l : List ℕ) (at : ℕ) → at + image_length ≤ length l
    → sets l at (image_of b) ≡ take at l ++ (image_of b ++ drop (at + image_length) l)
stored b l at fits =
    sets-eq (image_of b) l at (omega (arith, image_length_lem b, fits)) ∙ append_assoc (take at l) (image_of b) _
    ∙ ap (λ (k : ℕ). take at l ++ (image_of b ++ drop (at + k) l)) (image_length_lem b)

module _ (b : Bench) (at : ℕ) (l l' : List ℕ) (r : Answer) (s : Saves b at l l' r) where
  kept : room_for image_length l at ≡ false → Outside b at l l' r
  kept none =
      let same : l' ≡ l = s.bytes ∙ pick_false _ _ _ none in
      record { before = ap (take at) same; behind = ap (drop (at + image_length)) same; as_long = ap length same; refused = λ twelve. same }

  module _ (room : room_for image_length l at ≡ true) where
    fits : at + image_length ≤ length l
    fits =
        let two = both_hold (leb at (length l)) (leb image_length (length l - at)) room in
        omega (arith, leb-true at (length l) two.0, leb-true image_length (length l - at) two.1)

    written : l' ≡ take at l ++ (image_of b ++ drop (at + image_length) l)
    written = s.bytes ∙ pick_true _ _ _ room ∙ stored b l at fits

    front_long : length (take at l ++ image_of b) ≡ at + image_length
    front_long = length-append (take at l) (image_of b) ∙ ap₂ ◌+◌ (length-take-le at l (omega (arith, fits))) (image_length_lem b)

    done : Outside b at l l' r
    done =
        record {
          before = ap (take at) written ∙ take_at (take at l) _ at (length-take-le at l (omega (arith, fits)));
          behind =
              ap (drop (at + image_length)) (written ∙ sym (append_assoc (take at l) (image_of b) _))
              ∙ drop_at (take at l ++ image_of b) _ (at + image_length) front_long;
          as_long =
              ap length (written ∙ sym (append_assoc (take at l) (image_of b) _)) ∙ length-append (take at l ++ image_of b) _
              ∙ ap₂ ◌+◌ front_long (length-drop (at + image_length) l) ∙ omega (arith, fits);
          refused = λ twelve. let two : ◌≡◌ {A = ℕ} 0 12 = sym (save_taken b at l l' r s fits) ∙ twelve in absurd (omega (arith, two));
        }

  outside : Outside b at l l' r
  outside = ⊎_elim done kept (either_way (room_for image_length l at))

pub stays : Stays
stays b at l l' r s = outside b at l l' r s

-- ---- behind an image

module _ (p rest : List ℕ) (long : length_in (version_of p) ≤ length p) where
  first_same : (k : ℕ) → k < 5 → at (p ++ rest) k ≡ at p k
  first_same k below =
      let five : 5 ≤ length p = omega (arith, long, front_inside (version_of p) 8) in
      let more : 5 ≤ length (p ++ rest) = omega (arith, length-append p rest, five) in
      sym (listed_at 5 (at (p ++ rest)) k 0 below)
      ∙ ap (λ (l : List ℕ). get_or l k 0) (front_written 5 (p ++ rest) more ∙ take-append-le 5 p rest five ∙ sym (front_written 5 p five))
      ∙ listed_at 5 (at p) k 0 below

  version_same : version_of (p ++ rest) ≡ version_of p
  unfolding version_of
  version_same = rw (first_same 3 (omega arith), first_same 4 (omega arith))

  record_same : (k : ℕ) → k < seat_count → record_at (p ++ rest) k ≡ record_at p k
  record_same k below =
      let v = version_of p in
      let here = place_in v k in
      let fits = inside v k below in
      ap (λ (n : ℕ). found n (drop (place_in n k) (p ++ rest))) version_same
      ∙ ap (found v) (drop-append-le here p rest (omega (arith, long, fits)))
      ∙ found_front v (drop here p) rest (omega (arith, long, fits, length-drop here p))

  seats_same : seats_in (p ++ rest) ≡ seats_in p
  unfolding seats_in
  seats_same =
      listed_same seat_count (seat_at (p ++ rest)) (seat_at p)
      (λ k below. ap (λ (o : Option Seat). unwrap_or o power_up) (record_same k below))

  good_same : seats_good (p ++ rest) ≡ seats_good p
  unfolding seats_good
  good_same = every_same seat_count (good_at (p ++ rest)) (good_at p) (λ k below. ap is_some (record_same k below))

  records_same : records_from (p ++ rest) ≡ records_from p
  unfolding records_from
  records_same = rw (good_same, seats_same)

  pub behind_apart : (b : Bench) → restored b (p ++ rest) ≡ restored b p
  unfolding restored refusal first_held bench_from image_good latches_allowed marked
  behind_apart b =
      let five : 5 ≤ length p = omega (arith, long, front_inside (version_of p) 8) in
      let more : length_in (version_of p) ≤ length (p ++ rest) = omega (arith, length-append p rest, long) in
      let block : controller_part (p ++ rest) ≡ controller_part p
      = ap (take 11) (drop-append-le 5 p rest five) ∙ take-append-le 11 (drop 5 p) rest (omega (arith, long, front_inside (version_of p) 8, length-drop 5 p)) in
      rw (
        first_same 0 (omega arith),
        first_same 1 (omega arith),
        first_same 2 (omega arith),
        version_same,
        block,
        good_same,
        seats_same,
        le-ltb (length (p ++ rest)) 5 (omega (arith, more, front_inside (version_of p) 8)),
        le-ltb (length (p ++ rest)) (length_in (version_of p)) more,
        le-ltb (length p) 5 five,
        le-ltb (length p) (length_in (version_of p)) long,
      )
