-- Valid at power-up, and after every record, refused or not.
use Rattle.std.specs.Prelude.{ℕ, zero, suc, ◌<◌, true, ◌&&◌, List, [], ◌∷◌, map, ◌≡◌, refl, eqb, length, get_or, set, replicate, Ok, Err}
use Rattle.std.proofs.Common.{le_of_suc-le-suc, not-suc-le-zero, sym, subst, ◌∙◌, eqb-true, eq-eqb}
use Rattle.std.proofs.Math.Path.{ap}
use Rattle.base.specs.Pick.{pick}
use Rattle.base.specs.Refusals.{first_of, refusal_by}
use Rattle.base.specs.PickLaws.{both_hold, pick_cases}
use Rattle.seat.specs.declared.Seat.{Seat}
use Rattle.seat.specs.Seats.{no_seat, reset}
use Rattle.seat.specs.Seats as one
use Rattle.seat.specs.Sound.{sound}
use Rattle.seat.proofs.SoundLaws.{power_up_sound, step_sound, reset_sound}
use Rattle.controller.specs.declared.Signalled as controller
use Rattle.controller.specs.Signals.{write, acknowledge}
use Rattle.controller.specs.Valid as controller-valid
use Rattle.controller.proofs.ValidLaws.{power_up_valid, valid_kept, valid_settled}
use Rattle.controller.specs.Refusals as controller-refusal
use Rattle.controller.specs.RefusalLaws.{step_done}
use Rattle.records.specs.declared.Event.{Event}
use Rattle.records.specs.declared.Event.TheVariants.{OfSeat, MasterReset, ReadController, WriteController, Acknowledge}
use Rattle.records.specs.Events.{Record, decoded, seat_count, Decoded}
use Rattle.bench.specs.declared.Bench.{Bench}
use Rattle.bench.specs.declared.Outcome.{Outcome}
use Rattle.bench.specs.Refusals.{room_grounds}
use Rattle.bench.specs.Seats.{chair, seat, lines, power_up}
use Rattle.bench.specs.Steps.{room_refusal, after, met, outcome, dealt}
use Rattle.bench.specs.Runs.{after_all}
use Rattle.bench.specs.MeetLaws.{outcome_dealt}
use Rattle.bench.specs.FrameLaws.{chair_small, seats_after, read_leaves, write_leaves, acknowledge_leaves}
use Rattle.bench.specs.Wired.{Wired}
use Rattle.bench.proofs.WiredLaws.{wired_kept, wired_power_up}
use Rattle.bench.specs.Valid.{sound_seats, valid}

-- the test, part by part
pub record Sound (b : Bench) : Type 0 where
  pub wired : Wired b
  pub controller : controller-valid.valid b.controller ≡ true
  pub seats : sound_seats b.seats ≡ true

pub parts : (b : Bench) → valid b ≡ true → Sound b
unfolding valid
parts b e =
    let three = both_hold (eqb (length b.seats) seat_count && eqb b.controller.lines.levels (lines b.seats) && controller-valid.valid b.controller) (sound_seats b.seats) e in
    let two = both_hold (eqb (length b.seats) seat_count && eqb b.controller.lines.levels (lines b.seats)) (controller-valid.valid b.controller) three.0 in
    let one = both_hold (eqb (length b.seats) seat_count) (eqb b.controller.lines.levels (lines b.seats)) two.0 in
    record { wired = record { all = eqb-true _ _ one.0; levels = eqb-true _ _ one.1 }; controller = two.1; seats = three.1 }

pub whole : (b : Bench) → Sound b → valid b ≡ true
unfolding valid
whole b s = rw (eq-eqb _ _ s.wired.all, eq-eqb _ _ s.wired.levels, s.controller, s.seats)

-- ---- the seats

-- a sound seat in place of another
sound_set : (l : List Seat) (n : ℕ) (s : Seat) → sound_seats l ≡ true → sound s ≡ true → sound_seats (set l n s) ≡ true
unfolding sound_seats
sound_set [] n s all new = refl
sound_set (x ∷ l) zero s all new = rw (new, (both_hold (sound x) (sound_seats l) all).1)
sound_set (x ∷ l) (suc n) s all new =
    let h = both_hold (sound x) (sound_seats l) all in
    rw (h.0, sound_set l n s h.1 new)

-- the seat in a chair is sound, where there is one
sound_at : (l : List Seat) (n : ℕ) (d : Seat) → sound_seats l ≡ true → n < length l → sound (get_or l n d) ≡ true
unfolding sound_seats
sound_at [] n d all inside = absurd (not-suc-le-zero inside)
sound_at (x ∷ l) zero d all inside = (both_hold (sound x) (sound_seats l) all).0
sound_at (x ∷ l) (suc n) d all inside = sound_at l n d (both_hold (sound x) (sound_seats l) all).1 (le_of_suc-le-suc inside)

sound_reset : (l : List Seat) → sound_seats l ≡ true → sound_seats (map reset l) ≡ true
unfolding sound_seats
sound_reset [] all = refl
sound_reset (x ∷ l) all =
    let h = both_hold (sound x) (sound_seats l) all in
    rw (reset_sound x h.0, sound_reset l h.1)

module _ (b : Bench) (s : Sound b) where
  pub at_seat_lem : (n : ℕ) → sound (seat b n) ≡ true
  unfolding seat
  at_seat_lem n = sound_at b.seats (chair n) no_seat s.seats (subst (λ (k : ℕ). chair n < k) (sym s.wired.all) (chair_small n))

  reset_seats : sound_seats (met b MasterReset).bench.seats ≡ true
  unfolding met room_refusal room_grounds refusal_by first_of pick after
  reset_seats = sound_reset b.seats s.seats

  seats_met : (e : Event) → sound_seats (met b e).bench.seats ≡ true
  seats_met (OfSeat n e) =
      ap sound_seats (seats_after b n e) ∙ sound_set b.seats (chair n) _ s.seats (step_sound (seat b n) e (at_seat_lem n))
  seats_met MasterReset = reset_seats
  seats_met (ReadController port) = ap sound_seats (read_leaves b port) ∙ s.seats
  seats_met (WriteController port byte) = ap sound_seats (write_leaves b port byte) ∙ s.seats
  seats_met Acknowledge = ap sound_seats (acknowledge_leaves b) ∙ s.seats

  -- ---- the controller

  controller_after : (e : Event) → room_refusal b e ≡ 0 → controller-valid.valid (after b e).controller ≡ true
  unfolding after room_refusal room_grounds controller-refusal.refusal
  controller_after (OfSeat n e) none = valid_settled b.controller _ s.controller
  controller_after MasterReset none = valid_settled b.controller _ s.controller
  controller_after (ReadController port) none = s.controller
  controller_after (WriteController port byte) none =
      ap (λ (t : controller.Signalled). controller-valid.valid t.controller) (sym (step_done b.controller (write port byte) none))
      ∙ valid_kept b.controller (write port byte) s.controller
  controller_after Acknowledge none =
      ap (λ (t : controller.Signalled). controller-valid.valid t.controller) (sym (step_done b.controller acknowledge none))
      ∙ valid_kept b.controller acknowledge s.controller

  controller_met : (e : Event) → controller-valid.valid (met b e).bench.controller ≡ true
  unfolding met
  controller_met e =
      pick_cases (λ (o : Outcome). controller-valid.valid o.bench.controller ≡ true) (eqb (room_refusal b e) 0) _ _
      (λ none. controller_after e (eqb-true _ _ none)) (λ some. s.controller)

  -- ---- the bench

  sound_dealt : (d : Decoded) → (sound_seats (dealt b d).bench.seats ≡ true) × (controller-valid.valid (dealt b d).bench.controller ≡ true)
  unfolding dealt
  sound_dealt (Ok e) = (seats_met e, controller_met e)
  sound_dealt (Err n) = (s.seats, s.controller)

  sound_kept : (r : Record) → Sound (outcome b r).bench
  sound_kept r =
      let h = subst (λ (o : Outcome). (sound_seats o.bench.seats ≡ true) × (controller-valid.valid o.bench.controller ≡ true))
      (sym (outcome_dealt b r)) (sound_dealt (decoded r)) in
      record { wired = wired_kept b s.wired r; controller = h.1; seats = h.0 }

-- every record keeps it, refused or not
pub kept : (b : Bench) (r : Record) → valid b ≡ true → valid (outcome b r).bench ≡ true
kept b r e = whole (outcome b r).bench (sound_kept b (parts b e) r)

seats_power_up : (n : ℕ) → sound_seats (replicate n one.power_up) ≡ true
unfolding sound_seats
seats_power_up zero = refl
seats_power_up (suc n) = rw (power_up_sound, seats_power_up n)

pub power_up_lem : valid power_up ≡ true
power_up_lem = whole power_up (record { wired = wired_power_up; controller = power_up_valid; seats = seats_power_up seat_count })

-- and so does a run
pub run_kept : (b : Bench) (rs : List Record) → valid b ≡ true → valid (after_all b rs) ≡ true
run_kept b [] e = e
run_kept b (r ∷ rs) e = run_kept (outcome b r).bench rs (kept b r e)
