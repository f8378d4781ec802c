-- What the bytes behind a header say: a bench, or none.
use Rattle.std.specs.Prelude.{ℕ, ◌<◌, Bool, true, false, ◌&&◌, List, [], ◌≡◌, refl, length, drop, slice_range, Option, Some, None, MatchOption, unwrap_or, Result, Ok, Err, IsErr, IsErrAnd, IfOk, ok_or}
use Rattle.std.specs.Result.{result_err}
use Rattle.std.proofs.Common.{⊎_elim, ap, ap₂, sym, ◌∙◌, arith, drop_of_length-le, Bor}
use Rattle.seat_image.specs.ReadLaws.{lent_to_end}
use Rattle.base.specs.Pick.{pick}
use Rattle.base.specs.PickLaws.{pick_true, pick_false, either_way, never}
use Rattle.base.specs.Refusals.{first_held, number_of, number_given}
use Rattle.base.specs.declared.Refusal.{Refusal}
use Rattle.base.specs.declared.Refusal.TheVariants.{NoSuchBench}
use Rattle.bench.specs.declared.Bench.{Bench}
use Rattle.bench.specs.Seats.{lines, power_up}
use Rattle.channel_image.specs.FoundLaws.{some_picked, none_picked}
use Rattle.channel_image.specs.Places.{at}
use Rattle.controller.specs.Valid.{latches_high}
use Rattle.image.specs.Layout.{controller_part, latches_place}
use Rattle.image.specs.Read.{seats_in, seats_good, records_from, controller_from, bench_from}
use Rattle.image.specs.RefusalLaws.{refusal_good, refusal_bad}
use Rattle.image.specs.Refusals.{header_grounds, controller_in_range, latches_allowed, image_good, body_of, refusal}
use Rattle.seat.specs.declared.Seat.{Seat}

module _ (p : List ℕ) where
  pub body_none : records_from p ≡ None → body_of p ≡ None
  unfolding records_from body_of image_good
  body_none none =
      pick_false _ _ _ (ap (λ (b : Bool). b && controller_in_range (controller_part p) && latches_allowed p) (none_picked (seats_good p) (seats_in p) none))

  module _ (seats : List Seat) (said : records_from p ≡ Some seats) where
    fine : Bool
    fine = controller_in_range (controller_part p) && latches_high (record { levels = lines seats; latches = at (controller_part p) latches_place })

    some : (seats_good p ≡ true) × (seats_in p ≡ seats)
    unfolding records_from
    some = some_picked (seats_good p) (seats_in p) seats said

    good_as : image_good p ≡ fine
    unfolding fine image_good latches_allowed
    good_as =
        ap₂ (λ (b : Bool) (l : List Seat). b && controller_in_range (controller_part p)
        && latches_high (record { levels = lines l; latches = at (controller_part p) latches_place })) some.0 some.1

    pub body_bad : (controller_in_range (controller_part p) && latches_high (record { levels = lines seats; latches = at (controller_part p) latches_place })) ≡ false
        → body_of p ≡ None
    unfolding body_of fine
    body_bad bad = pick_false _ _ _ (good_as ∙ bad)

    pub body_good : (controller_in_range (controller_part p) && latches_high (record { levels = lines seats; latches = at (controller_part p) latches_place })) ≡ true
        → body_of p ≡ Some (record { seats = seats; controller = controller_from (controller_part p) (lines seats) })
    unfolding body_of fine bench_from
    body_good good =
        pick_true _ _ _ (good_as ∙ good)
        ∙ (λ i. Some (record { seats = some.1 i; controller = controller_from (controller_part p) (lines (some.1 i)) }))

  -- ---- as the reader answers it

  pub read_bench : IfOk (ok_or (body_of p) NoSuchBench) (λ b. b ≡ bench_from p)
  unfolding body_of pick
  read_bench = by (image_good p)
    where
      by : (good : Bool) → IfOk (ok_or (pick good (Some (bench_from p)) None) NoSuchBench) (λ b. b ≡ bench_from p)
      by true = refl
      by false = tt

  module _ (taken : first_held (header_grounds p) ≡ 0) where
    pub read_refusal : number_given (result_err (ok_or (body_of p) NoSuchBench)) ≡ refusal p
    unfolding body_of number_given number_of
    read_refusal =
        ⊎_elim
        (λ (good : image_good p ≡ true).
        ap (λ (o : Option Bench). number_given (result_err (ok_or o NoSuchBench))) (pick_true (image_good p) (Some (bench_from p)) None good)
        ∙ sym (refusal_good power_up p taken good))
        (λ (bad : image_good p ≡ false).
        ap (λ (o : Option Bench). number_given (result_err (ok_or o NoSuchBench))) (pick_false (image_good p) (Some (bench_from p)) None bad)
        ∙ sym (refusal_bad power_up p taken bad))
        (either_way (image_good p))

-- ---- what the library hands on

-- an error that is handed on is the same
pub err_passed : (r : Result Bench Refusal) (e : Refusal) → IsErr r → IsErrAnd r (λ f. f ≡ e) → result_err r ≡ Some e
err_passed (Ok b) e fails same = absurd (never fails)
err_passed (Err f) e fails same = ap Some same

-- the rest of a slice from a place on, or nothing from a place past its end
pub rest_read : (l : List ℕ) (place : ℕ) (o : Option (Bor (List ℕ))) (e : Bor (List ℕ)) (P : Type 0) (Q : Bor (List ℕ) → Type 0)
    → e.now ≡ [] → MatchOption o P Q → (P → length l < place) → ((x : Bor (List ℕ)) → Q x → x.now ≡ slice_range l place (length l))
    → (unwrap_or o e).now ≡ drop place l
rest_read l place None e P Q empty nothing past is = empty ∙ sym (drop_of_length-le l {i = place} (omega (arith, past nothing)))
rest_read l place (Some x) e P Q empty there past is = is x there ∙ lent_to_end place l
