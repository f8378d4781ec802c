-- A record is good exactly if it has each row of its fields.
use Rattle.std.specs.Prelude.{ℕ, ◌+◌, ◌*◌, ◌<◌, ◌≤◌, List, ◌≡◌, refl, eqb, drop}
use Rattle.std.proofs.Math.Bool.{true, ◌&&◌}
use Rattle.std.proofs.Common.{ap, ◌∙◌, arith, get_or-take, get_or-drop}
use Rattle.std.proofs.Math.Path.{ap₂, sym}
use Rattle.std.proofs.Math.Dec.{leb}
use borrow.Author.Tests.{eqb-true, eq-eqb, le-leb, leb-true}
use Rattle.base.specs.PickLaws.{both_hold}
use Rattle.channel_image.specs.Allowed.{channel_good}
use Rattle.channel_image.proofs.FieldLaws as first
use Rattle.channel_image.specs.Fields.{byte_at}
use Rattle.channel_image.specs.Places.{at, received_place}
use Rattle.seat.specs.Tallies.{largest, add_up}
use Rattle.seat_image.specs.Fields.{word, SeatFields, Exactly}
use Rattle.seat_image.specs.Read.{channel_part, tally_part, tallies_from, tallies_good, record_good}
use Rattle.seat_image.specs.Words.{word_at}

-- ---- a part of a record, at its places there

module _ (l : List ℕ) where
  pub tally_at : (k m : ℕ) → k < 20 → 66 + k ≡ m → at (tally_part l) k ≡ byte_at l m
  tally_at k m below place = get_or-take 20 (drop 66 l) k 0 below ∙ get_or-drop 66 l k 0 ∙ ap (byte_at l) place

  tally_word : (k m : ℕ) → k ≤ 16 → 66 + k ≡ m → word_at (tally_part l) k ≡ word l m
  unfolding word_at
  tally_word k m fits place =
      let a = tally_at k m (omega (arith, fits)) place in
      let b = tally_at (k + 1) (m + 1) (omega (arith, fits)) (omega (arith, place)) in
      let c = tally_at (k + 2) (m + 2) (omega (arith, fits)) (omega (arith, place)) in
      let d = tally_at (k + 3) (m + 3) (omega (arith, fits)) (omega (arith, place)) in
      λ i. a i + 256 * b i + 65536 * c i + 16777216 * d i

  arrived : word_at (tally_part l) 0 ≡ word l 66
  arrived = tally_word 0 66 (omega arith) refl

  read : word_at (tally_part l) 4 ≡ word l 70
  read = tally_word 4 70 (omega arith) refl

  lost : word_at (tally_part l) 8 ≡ word l 74
  lost = tally_word 8 74 (omega arith) refl

  dropped : word_at (tally_part l) 12 ≡ word l 78
  dropped = tally_word 12 78 (omega arith) refl

  queued : word_at (tally_part l) 16 ≡ word l 82
  queued = tally_word 16 82 (omega arith) refl

  received : at (channel_part l) received_place ≡ byte_at l 33
  received = get_or-take 66 l 33 0 (omega arith)

  -- ---- both ways

  -- the conditions, each as a fact
  pub halves : record_good l ≡ true → (channel_good (channel_part l) ≡ true) × (tallies_good (tally_part l) (at (channel_part l) received_place) ≡ true)
  unfolding record_good
  halves good = both_hold (channel_good (channel_part l)) (tallies_good (tally_part l) (at (channel_part l) received_place)) good

  pub tally_tests : record_good l ≡ true
      → (add_up (tallies_from (tally_part l)) (word_at (tally_part l) 16) ≡ true) × (word_at (tally_part l) 16 ≡ at (channel_part l) received_place)
  unfolding tallies_good
  tally_tests good =
      let two = both_hold (add_up (tallies_from (tally_part l)) (word_at (tally_part l) 16)) (eqb (word_at (tally_part l) 16) (at (channel_part l) received_place))
      (halves good).1 in
      (two.0, eqb-true _ _ two.1)

  needed : record_good l ≡ true → SeatFields l
  unfolding add_up tallies_from
  needed good =
      let t = tally_tests good in
      let b = tally_part l in
      let sums = both_hold (eqb (word_at b 4 + word_at b 8 + word_at b 12 + word_at b 16) (word_at b 0)) (leb (word_at b 0) largest) t.0 in
      let most : word_at b 0 ≤ largest = leb-true (word_at b 0) largest sums.1 in
      record {
        channel = first.good_fields (channel_part l) (halves good).0;
        sum = (λ i. sym read i + sym lost i + sym dropped i + sym queued i) ∙ eqb-true _ _ sums.0 ∙ arrived;
        arrived = omega (arith, most, arrived);
        queued = sym queued ∙ t.1 ∙ received;
      }

  enough : SeatFields l → record_good l ≡ true
  unfolding record_good tallies_good add_up tallies_from
  enough f =
      let b = tally_part l in
      let same : word_at b 4 + word_at b 8 + word_at b 12 + word_at b 16 ≡ word_at b 0
      = (λ i. read i + lost i + dropped i + queued i) ∙ f.sum ∙ sym arrived in
      let most : leb (word_at b 0) largest ≡ true = le-leb (word_at b 0) largest (omega (arith, arrived, f.arrived)) in
      ap₂ ◌&&◌ (first.fields_good (channel_part l) f.channel)
      (ap₂ ◌&&◌ (ap₂ ◌&&◌ (eq-eqb _ _ same) most) (eq-eqb _ _ (queued ∙ f.queued ∙ sym received)))

pub exactly : Exactly
exactly = record { needed = needed; enough = enough }
