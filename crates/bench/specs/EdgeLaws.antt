-- The edges of a record: kind 8 and 9, the last seat and the next number, and what a master reset leaves.
use Rattle.std.specs.Prelude.{ℕ, ◌<◌, ◌≤◌, ◌≡◌}
use Rattle.std.proofs.Math.Path.{refl, ap}
use Rattle.std.proofs.Common.{◌∙◌}
use Rattle.std.proofs.Math.Dec.{eqb}
use Rattle.base.specs.Pick.{pick}
use Rattle.base.specs.PickLaws.{pick_true}
use Rattle.base.specs.Refusals.{first_of, refusal_by}
use Rattle.base.specs.Answers.{value_of}
use Rattle.controller.specs.Turns.{settled}
use Rattle.records.specs.declared.Event.TheVariants.{MasterReset}
use Rattle.records.specs.Events.{whole, short, event_of, seat_count}
use Rattle.records.specs.EarlyLaws.{early_kind, early_seat, taken_seat, taken_other}
use Rattle.bench.specs.declared.Bench.{Bench}
use Rattle.bench.specs.declared.Outcome.{Outcome}
use Rattle.bench.specs.Refusals.{room_grounds, grounds, refusal}
use Rattle.bench.specs.Steps.{room_refusal, after, answer_to, outcome}
use Rattle.bench.specs.RefusalLaws.{refused_early, refused_late}

module _ (b : Bench) where
  -- a short record is 4 on any bench
  pub short_refused : refusal b short ≡ 4
  unfolding refusal grounds refusal_by first_of pick
  short_refused = refl

  -- kinds above 8 are 3, whatever the other bytes
  pub kind_refused : (k s n v : ℕ) → 8 < k → refusal b (whole k s n v) ≡ 3
  kind_refused k s n v above =
      refused_early b (whole k s n v) (ap (λ (x : ℕ). eqb x 0) (early_kind k s n v above)) ∙ early_kind k s n v above

  -- numbers that no seat has are 1 for each of the five kinds that use the seat, whatever the register
  pub seat_refused : (k s n v : ℕ) → k < 5 → seat_count ≤ s → refusal b (whole k s n v) ≡ 1
  seat_refused k s n v uses above =
      refused_early b (whole k s n v) (ap (λ (x : ℕ). eqb x 0) (early_seat k s n v uses above)) ∙ early_seat k s n v uses above

  -- what is left is the room's: kinds to 8 with a seat that is there, and the four kinds that use no seat
  pub seat_taken : (k s n v : ℕ) → k < 5 → s < seat_count → refusal b (whole k s n v) ≡ room_refusal b (event_of k s n v)
  seat_taken k s n v uses within = refused_late b (whole k s n v) (ap (λ (x : ℕ). eqb x 0) (taken_seat k s n v uses within))

  pub other_taken : (k s n v : ℕ) → 5 ≤ k → k < 9 → refusal b (whole k s n v) ≡ room_refusal b (event_of k s n v)
  other_taken k s n v other within = refused_late b (whole k s n v) (ap (λ (x : ℕ). eqb x 0) (taken_other k s n v other within))

  -- a master reset is refused by nobody, and leaves the controller's own state: only the lines move
  pub reset_taken : (s n v : ℕ) → refusal b (whole 5 s n v) ≡ 0
  unfolding refusal grounds room_grounds refusal_by first_of event_of pick
  reset_taken s n v = refl

  pub reset_leaves : ((after b MasterReset).controller.setup ≡ b.controller.setup) × ((after b MasterReset).controller.operation ≡ b.controller.operation)
  unfolding after settled
  reset_leaves = (refl, refl)

  -- "master reset of all eight seats": "000", whatever the other bytes
  pub reset_answered : (s n v : ℕ) → value_of (outcome b (whole 5 s n v)).answer ≡ 0x000
  unfolding outcome answer_to value_of event_of pick
  reset_answered s n v = ap (λ (o : Outcome). value_of o.answer) (pick_true _ _ _ (ap (λ (x : ℕ). eqb x 0) (reset_taken s n v)))
