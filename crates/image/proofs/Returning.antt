-- There and back.
use Prim.Native.Nat.{ℕ, ◌+◌, ◌*◌, ◌<◌, ◌≤◌}
use mathlib.Core.List.{List, [], ◌++◌}
use mathlib.Core.Path.{◌≡◌, refl, ap, sym, ◌∙◌}
use native.Mathlib.Omega.{arith}
use lib.ListN.{length, get_or, take, drop}
use lib.Seq.{sets, take_at, drop_at, length-take-le}
use borrow.Author.Tests.{ne_eqb}
use Rattle.base.specs.declared.Answer.{Answer}
use Rattle.base.specs.Answers.{refusal_of}
use Rattle.base.specs.ListLaws.{listed_at}
use Rattle.base.specs.PickLaws.{pick_true, never}
use Rattle.seat.specs.Seats.{no_seat}
use Rattle.seat_image.specs.Read.{has_tallies, new_record}
use Rattle.seat_image.specs.Written.{record_of}
use Rattle.controller.specs.Steps as controller
use Rattle.bench.specs.declared.Bench.{Bench}
use Rattle.bench.specs.Runs.{outcomes}
use Rattle.bench.specs.Seats.{lines}
use Rattle.bench.specs.Valid.{valid}
use Rattle.channel_image.specs.Fields.{byte_at}
use Rattle.image.specs.declared.Restored.{Restored}
use Rattle.image.proofs.BackLaws.{restored_saved, restored_buffer}
use Rattle.image.proofs.ItemLaws.{reached_valid}
use Rattle.image.specs.Items.{item_outcomes, after_items}
use Rattle.image.specs.Layout.{image_length, version_of, place_in, stretch}
use Rattle.image.specs.PlaceLaws.{place_with, place_without}
use Rattle.image.specs.Read.{seat_at, seats_in, bench_from}
use Rattle.image.specs.Refusals.{restored, refusal}
use Rattle.image.proofs.RestoredLaws.{taken_of, restored_taken, restored_left, restored_valid, saved_restored, controller_back, record_back}
use Rattle.image.proofs.RestoredLaws as law
use Rattle.image.specs.ThereAndBack.{ReadBack, AnswersAlike, WrittenBack, Versions, OlderWrittenBack, OneToOne, Untouched, NoEdge, Reached}
use Rattle.image.specs.Written.{header, controller_bytes, image_of, Saves}
use Rattle.image.specs.WrittenLaws.{image_length_lem}
use Rattle.image.proofs.Numbering.{has_room, room_of}
use Rattle.image.proofs.Outside.{stretch_at, stored, behind_apart}

-- what a save that is done leaves
bytes_of : (b : Bench) (at : ℕ) (l l' : List ℕ) (r : Answer) → Saves b at l l' r → refusal_of r ≡ 0 → l' ≡ sets l at (image_of b)
bytes_of b at l l' r s done = s.bytes ∙ pick_true _ _ _ (has_room l at (room_of b at l l' r s done))

pub read_back : ReadBack
read_back b before at l l' r v s done =
    ap (λ (m : List ℕ). restored before (drop at m)) (bytes_of b at l l' r s done) ∙ restored_buffer b before l at v (room_of b at l l' r s done)

pub answers_alike : AnswersAlike
answers_alike b before at l l' r v s done =
    let same : (restored before (drop at l')).bench ≡ b = ap (λ (t : Restored). t.bench) (read_back b before at l l' r v s done) in
    record {
      items = λ is. ap (λ (c : Bench). item_outcomes c is) same;
      records = λ rs. ap (λ (c : Bench). outcomes c rs) same;
      places = λ is n. ap (λ (c : Bench). controller.placed (after_items c is).controller n) same;
    }

pub written_back : WrittenBack
written_back p before at l l' r none version small s done =
    let b = (restored before p).bench in
    let is : image_of b ≡ take image_length p
    = ap (λ (t : Restored). image_of t.bench) (restored_taken before p none) ∙ saved_restored p (taken_of p none) version small in
    let fits : at + image_length ≤ length l = room_of b at l l' r s done in
    ap (λ (m : List ℕ). take image_length (drop at m)) (bytes_of b at l l' r s done ∙ stored b l at fits)
    ∙ ap (take image_length) (drop_at (take at l) _ at (length-take-le at l (omega (arith, fits))))
    ∙ take_at (image_of b) _ image_length (image_length_lem b) ∙ is

-- ---- an older image

pub versions : Versions
versions =
    record {
      length_1 = place_without 1 8 refl;
      length_2 = place_with 2 8 refl;
      place_1 = λ n. place_without 1 n refl;
      place_2 = λ n. place_with 2 n refl;
    }

front_told : (b : Bench) (rest : List ℕ) → take 16 (image_of b ++ rest) ≡ header ++ controller_bytes b.controller
unfolding image_of controller_bytes
front_told b rest = refl

module _ (p : List ℕ) (none : refusal p ≡ 0) (version : version_of p ≡ 1) where
  older_front : controller_bytes (bench_from p).controller ≡ take 11 (drop 5 p)
  unfolding bench_from
  older_front = controller_back p (taken_of p none) (lines (seats_in p))

  older_seat : (n : ℕ) → n < 8 → record_of (get_or (bench_from p).seats n no_seat) ≡ new_record 1 (drop (16 + 66 * n) p)
  unfolding bench_from seats_in stretch
  older_seat n below =
      ap record_of (listed_at 8 (seat_at p) n no_seat below)
      ∙ record_back p (taken_of p none) (λ has. absurd (never (ap has_tallies (sym version) ∙ has))) n below
      ∙ ap (λ (v : ℕ). new_record v (drop (place_in v n) p)) version
      ∙ ap (λ (k : ℕ). new_record 1 (drop k p)) (place_without 1 n refl)

pub older_written_back : OlderWrittenBack
older_written_back p before at l l' r none version s done =
    let b = (restored before p).bench in
    let fits : at + image_length ≤ length l = room_of b at l l' r s done in
    let there : drop at l' ≡ image_of b ++ drop (at + image_length) l
    = ap (drop at) (bytes_of b at l l' r s done ∙ stored b l at fits) ∙ drop_at (take at l) _ at (length-take-le at l (omega (arith, fits))) in
    let is : b ≡ bench_from p = ap (λ (t : Restored). t.bench) (restored_taken before p none) in (
      ap (take 16) there ∙ front_told b _ ∙ ap (λ (c : Bench). header ++ controller_bytes c.controller) is
          ∙ ap (λ (m : List ℕ). header ++ m) (older_front p none version),
      λ n below.
          ap (λ (m : List ℕ). take 86 (drop (16 + 86 * n) m)) there ∙ stretch_at b _ n below
          ∙ ap (λ (c : Bench). record_of (get_or c.seats n no_seat)) is ∙ older_seat p none version n below,
    )

pub one_to_one : OneToOne
one_to_one b c v w same =
    ap (λ (t : Restored). t.bench) (sym (restored_saved b v [] b)) ∙ ap (λ (l : List ℕ). (restored b (l ++ [])).bench) same
    ∙ ap (λ (t : Restored). t.bench) (restored_saved c w [] b)

pub untouched : Untouched
untouched =
    record {
      bench = λ b p some. restored_left b p (ne_eqb (refusal p) 0 some);
      old = λ b c p none. restored_taken b p none ∙ sym (restored_taken c p none);
      behind = λ b p rest long. behind_apart p rest long b;
    }

pub no_edge : NoEdge
no_edge b p none =
    ap (λ (t : Restored). t.bench.controller.lines) (restored_taken b p none) ∙ law.no_edge p (taken_of p none)
    ∙ ap (λ (t : Restored). record { levels = lines t.bench.seats; latches = byte_at p 15 }) (sym (restored_taken b p none))

pub reached : Reached
reached =
    record {
      taken = λ b p none. ap (λ (t : Restored). valid t.bench) (restored_taken b p none) ∙ restored_valid p (taken_of p none);
      all = reached_valid;
    }
