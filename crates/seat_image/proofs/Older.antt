-- What a record of version 1 reads as.
use Prim.Native.Nat.{ℕ}
use Rattle.std.specs.Prelude.{Some}
use mathlib.Core.List.{List, ◌++◌}
use mathlib.Core.Path.{◌≡◌, refl, ap, ap₂, ◌∙◌}
use native.Mathlib.Omega.{arith}
use lib.ListN.{length}
use lib.Seq.{get_or-take, take_all}
use Rattle.base.specs.PickLaws.{pick_true, pick_false, never}
use Rattle.channel_image.specs.Fields.{byte_at}
use Rattle.seat.specs.declared.Seat.{Seat}
use Rattle.seat_image.proofs.BackLaws.{found_older, new_back}
use Rattle.seat_image.specs.Read.{has_tallies, queued_only, new_record, found}
use Rattle.seat_image.specs.ReadLaws.{has_none, whole, found_well}
use Rattle.seat_image.specs.ThereAndBack.{Older}
use Rattle.seat_image.specs.Written.{tally_bytes, record_of}

laid_out : (l : List ℕ) → length l ≡ 66 → new_record 1 l ≡ l ++ tally_bytes (queued_only (byte_at l 33)) (byte_at l 33)
unfolding new_record
laid_out l long =
    ap₂ ◌++◌ (take_all 66 l (omega (arith, long)))
    (has_none 1 l _ refl ∙ ap (λ (n : ℕ). tally_bytes (queued_only n) n) (get_or-take 66 l 33 0 (omega arith)))

written : (l : List ℕ) (s : Seat) → length l ≡ 66 → found 1 l ≡ Some s
    → record_of s ≡ l ++ tally_bytes (queued_only (byte_at l 33)) (byte_at l 33)
written l s long said =
    let w = found_well 1 l s said in
    ap record_of w.seat ∙ new_back 1 l w.long w.good (λ has k. absurd (never has)) ∙ laid_out l long

pub older : Older
older =
    record {
      first_66 = pick_false {A = ℕ} (has_tallies 1) 86 66 refl;
      newest_86 = pick_true {A = ℕ} (has_tallies 2) 86 66 refl;
      read = found_older;
      written = written;
      whole = whole;
    }
