-- What each kind of record does, over its outcome: to the seat that it names, to the controller, and its answer.
use Prim.Native.Nat.{ℕ, zero, suc, ◌+◌, ◌<◌}
use Rattle.std.specs.Prelude.{List, [], ◌∷◌, ◌≡◌, refl, eqb, length, get_or}
use Rattle.std.proofs.Math.Path.{ap, sym}
use Rattle.std.proofs.Common.{◌∙◌, arith}
use Rattle.base.specs.Pick.{pick}
use Rattle.base.specs.PickLaws.{pick_true, pick_through}
use Rattle.registers.specs.declared.SeatEvent.{SeatEvent}
use Rattle.registers.specs.declared.SeatEvent.TheVariants.{Read, Write, Arrival, Levels, Time}
use Rattle.seat.specs.declared.Replied.{Replied}
use Rattle.seat.specs.Seats.{reset}
use Rattle.seat.specs.Steps as seat-step
use Rattle.seat.specs.Steps.{stepped}
use Rattle.controller.specs.declared.Controller.{Controller}
use Rattle.controller.specs.Signals.{Signal, read, write, acknowledge}
use Rattle.controller.specs.Steps.{step}
use Rattle.controller.specs.RefusalLaws.{read_keeps}
use Rattle.records.specs.declared.Event.TheVariants.{OfSeat}
use Rattle.records.specs.Events.{Record, whole, early, event_of, event, decoded, seat_count}
use Rattle.records.specs.EarlyLaws.{taken_seat, taken_other}
use Rattle.bench.specs.declared.Bench.{Bench}
use Rattle.bench.specs.declared.Outcome.{Outcome}
use Rattle.bench.specs.Refusals.{room_grounds}
use Rattle.bench.specs.Seats.{seat, with_controller}
use Rattle.bench.specs.Steps.{room_refusal, answer_to, shown, met, outcome, dealt}
use Rattle.bench.specs.MeetLaws.{read_met, write_met, acknowledge_met, outcome_dealt}
use Rattle.bench.specs.FrameLaws.{own_seat, reset_seat}

-- ---- the kinds, in the order of document 01's table

-- kinds 0 to 4, by the bytes that they use: "seat, register, -"; "seat, register, byte"; "seat, marks (1 parity, 2 framing, 4 break), data";
-- "seat, -, levels (1 CTS, 2 DSR, 4 RI, 8 DCD; set = active)"; "seat"
abbrev pub seat_events : ℕ → ℕ → List SeatEvent
seat_events n v = Read n ∷ Write n v ∷ Arrival n v ∷ Levels v ∷ Time ∷ []

-- kinds 6 to 8: "-, port"; "-, port, byte"; "none"
abbrev pub signals : ℕ → ℕ → List Signal
signals n v = read n ∷ write n v ∷ acknowledge ∷ []

seat_kind : (k s n v : ℕ) → k < 5 → event_of k s n v ≡ OfSeat s (get_or (seat_events n v) k Time)
unfolding event_of pick
seat_kind zero s n v h = refl
seat_kind (suc zero) s n v h = refl
seat_kind (suc (suc zero)) s n v h = refl
seat_kind (suc (suc (suc zero))) s n v h = refl
seat_kind (suc (suc (suc (suc zero)))) s n v h = refl
seat_kind (suc (suc (suc (suc (suc k))))) s n v h = absurd (omega arith)

-- a record that decoding does not refuse is its event's
is_met : (b : Bench) (r : Record) → early r ≡ 0 → outcome b r ≡ met b (event r)
unfolding decoded dealt
is_met b r none = outcome_dealt b r ∙ ap (dealt b) (pick_true _ _ _ (ap (λ (x : ℕ). eqb x 0) none))

module _ (b : Bench) where
  -- the answer of a seat event is the seat's
  pub seat_answer : (n : ℕ) (e : SeatEvent) → (met b (OfSeat n e)).answer ≡ (stepped (seat b n) e).answer
  unfolding met room_refusal room_grounds seat-step.refusal answer_to stepped
  seat_answer n e =
      pick_through (λ (o : Outcome). o.answer) (eqb (seat-step.refusal (seat b n) e) 0) _ _
      ∙ sym (pick_through (λ (t : Replied). t.answer) (eqb (seat-step.refusal (seat b n) e) 0) _ _)

  -- "Each call touches the one seat it names": the seat after it is the seat's own step, and the answer is the seat's
  pub seat_done_lem : length b.seats ≡ seat_count → (k s n v : ℕ) → k < 5 → s < seat_count
      → (let t = stepped (seat b s) (get_or (seat_events n v) k Time) in
      (seat (outcome b (whole k s n v)).bench s ≡ t.seat) × ((outcome b (whole k s n v)).answer ≡ t.answer))
  seat_done_lem all k s n v kind within =
      let is : outcome b (whole k s n v) ≡ met b (OfSeat s (get_or (seat_events n v) k Time)) =
      is_met b (whole k s n v) (taken_seat k s n v kind within) ∙ ap (met b) (seat_kind k s n v kind) in (
        ap (λ (o : Outcome). seat o.bench s) is ∙ own_seat b all s _,
        ap (λ (o : Outcome). o.answer) is ∙ seat_answer s _,
      )

  -- "master reset of all eight seats": each of them
  pub reset_done : length b.seats ≡ seat_count → (m s n v : ℕ) → seat (outcome b (whole 5 s n v)).bench m ≡ reset (seat b m)
  unfolding event_of pick
  reset_done all m s n v =
      ap (λ (o : Outcome). seat o.bench m) (is_met b (whole 5 s n v) (taken_other 5 s n v (omega arith) (omega arith)))
      ∙ reset_seat b all m

  -- a controller event is one signal to the controller and the answer to it, and touches no seat
  abbrev pub signalled : Signal → Outcome
  signalled x = let t = step b.controller x in shown (with_controller b t.controller) t.answer

  pub controller_done : (k s n v : ℕ) → k < 3 → outcome b (whole (6 + k) s n v) ≡ signalled (get_or (signals n v) k acknowledge)
  unfolding event_of pick
  controller_done zero s n v h =
      is_met b (whole 6 s n v) (taken_other 6 s n v (omega arith) (omega arith)) ∙ sym (read_met b n)
      ∙ ap (λ (c : Controller). shown (with_controller b c) (step b.controller (read n)).answer) (sym (read_keeps b.controller n))
  controller_done (suc zero) s n v h =
      is_met b (whole 7 s n v) (taken_other 7 s n v (omega arith) (omega arith)) ∙ sym (write_met b n v)
  controller_done (suc (suc zero)) s n v h =
      is_met b (whole 8 s n v) (taken_other 8 s n v (omega arith) (omega arith)) ∙ sym (acknowledge_met b)
  controller_done (suc (suc (suc k))) s n v h = absurd (omega arith)
