-- The outcome of a record, by the parts that its event touches.
use Rattle.std.specs.Prelude.{ℕ, zero, suc, true, false, List, [], ◌∷◌, ◌≡◌, refl, eqb, get_or, set}
use Rattle.std.proofs.Common.{ap, sym, ◌∙◌, ⊎_elim}
use Rattle.base.specs.Pick.{pick}
use Rattle.base.specs.PickLaws.{pick_true, pick_false, pick_through, either_way}
use Rattle.base.specs.declared.Answer.TheVariants as answer
use Rattle.registers.specs.declared.SeatEvent.{SeatEvent}
use Rattle.seat.specs.Seats.{no_seat}
use Rattle.seat.specs.Steps as seat-step
use Rattle.controller.specs.declared.Signalled as controller
use Rattle.controller.specs.Signals.{read, write, acknowledge}
use Rattle.controller.specs.Refusals as refusing
use Rattle.controller.specs.Steps.{step}
use Rattle.records.specs.declared.Event.{Event}
use Rattle.records.specs.declared.Event.TheVariants.{OfSeat, ReadController, WriteController, Acknowledge}
use Rattle.records.specs.Events.{Record, early, event, decoded}
use Rattle.records.specs.Parts.{touched}
use Rattle.bench.specs.declared.Bench.{Bench}
use Rattle.bench.specs.declared.Outcome.{Outcome}
use Rattle.bench.specs.Refusals.{room_grounds}
use Rattle.bench.specs.Seats.{chair, seat, with_seat, with_controller}
use Rattle.bench.specs.Steps.{room_refusal, after, answer_to, shown, met, outcome, dealt}
use Rattle.bench.specs.Parts.{stored}
use Rattle.bench.specs.RefusalLaws.{refused_early, refused_late}

-- ---- an event on a seat

-- a seat stored where it stood changes nothing
same_back : {A : Type 0} (l : List A) (k : ℕ) (d : A) → set l k (get_or l k d) ≡ l
same_back [] k d = refl
same_back (x ∷ l) zero d = refl
same_back (x ∷ l) (suc k) d = ap (λ r. x ∷ r) (same_back l k d)

pub seat_back : (b : Bench) (n : ℕ) → with_seat b n (seat b n) ≡ b
unfolding seat with_seat
seat_back b n = λ i. record { seats = same_back b.seats (chair n) no_seat i; controller = b.controller }

pub seat_met : (b : Bench) (n : ℕ) (e : SeatEvent) → stored b n (touched (seat b n) b.controller n e) ≡ met b (OfSeat n e)
unfolding touched met room_refusal room_grounds seat-step.refusal after answer_to
seat_met b n e =
    pick_through (stored b n) (eqb (seat-step.refusal (seat b n) e) 0) _ _
    ∙ ap (pick (eqb (seat-step.refusal (seat b n) e) 0) _)
    (ap (λ (d : Bench). shown (with_controller d b.controller) (answer.Refused (seat-step.refusal (seat b n) e))) (seat_back b n))

-- ---- an event on the controller

module _ (b : Bench) where
  pub write_met : (port byte : ℕ) → (let s = step b.controller (write port byte) in shown (with_controller b s.controller) s.answer) ≡ met b (WriteController port byte)
  unfolding step met room_refusal room_grounds refusing.refusal after answer_to
  write_met port byte = pick_through (λ (s : controller.Signalled). shown (with_controller b s.controller) s.answer) _ _ _

  pub acknowledge_met : (let s = step b.controller acknowledge in shown (with_controller b s.controller) s.answer) ≡ met b Acknowledge
  unfolding step met room_refusal room_grounds refusing.refusal after answer_to
  acknowledge_met = pick_through (λ (s : controller.Signalled). shown (with_controller b s.controller) s.answer) _ _ _

  pub read_met : (port : ℕ) → shown b (step b.controller (read port)).answer ≡ met b (ReadController port)
  unfolding step met room_refusal room_grounds refusing.refusal after answer_to
  read_met port = pick_through (λ (s : controller.Signalled). shown b s.answer) _ _ _

-- ---- a record: refused by itself, or its event met

-- the outcome by the number of its refusal
abbrev by_number : Bench → Event → ℕ → Outcome
by_number b e n = pick (eqb n 0) (shown (after b e) (answer_to b e)) (shown b (answer.Refused n))

pub outcome_dealt : (b : Bench) (r : Record) → outcome b r ≡ dealt b (decoded r)
unfolding outcome decoded dealt met
outcome_dealt b r =
    ⊎_elim
    (λ (none : eqb (early r) 0 ≡ true).
    ap (by_number b (event r)) (refused_late b r none) ∙ sym (ap (dealt b) (pick_true _ _ _ none)))
    (λ (some : eqb (early r) 0 ≡ false).
    ap (by_number b (event r)) (refused_early b r some) ∙ pick_false _ _ _ some ∙ sym (ap (dealt b) (pick_false _ _ _ some)))
    (either_way (eqb (early r) 0))
