-- Refused or not can be read off the answer; a refused record leaves the bench equal.
use Rattle.std.specs.Prelude.{ℕ, true, false, ◌≡◌, refl, Option, Some, None}
use Rattle.std.proofs.Math.Path.{ap, sym}
use Rattle.std.proofs.Common.{◌∙◌, eqb-true, eq-eqb, ne_eqb}
use Rattle.std.proofs.Math.Logic.{⊎_elim}
use Rattle.std.proofs.Math.Dec.{eqb}
use Rattle.base.specs.PickLaws.{pick_true, pick_false, either_way}
use Rattle.base.specs.Answers.{refusal_of}
use Rattle.base.specs.declared.Answer.TheVariants as answer
use Rattle.seat.specs.StepLaws.{effect_taken}
use Rattle.controller.specs.declared.Controller.{Controller}
use Rattle.controller.specs.Turns.{answered, acknowledged, granted, output_of}
use Rattle.records.specs.declared.Event.{Event}
use Rattle.records.specs.declared.Event.TheVariants.{OfSeat, MasterReset, ReadController, WriteController, Acknowledge}
use Rattle.records.specs.Events.{Record, event}
use Rattle.bench.specs.declared.Bench.{Bench}
use Rattle.bench.specs.declared.Outcome.{Outcome}
use Rattle.bench.specs.Refusals.{refusal}
use Rattle.bench.specs.Seats.{seat}
use Rattle.bench.specs.Steps.{after, answer_to, shown, outcome}

-- an acknowledge is a vector, or spurious
turn_taken : (c : Controller) (t : Option ℕ) → refusal_of (answered c t).answer ≡ 0
unfolding refusal_of
turn_taken c (Some n) = refl
turn_taken c None = refl

-- what is done is answered with no refusal
pub answer_taken : (b : Bench) (e : Event) → refusal_of (answer_to b e) ≡ 0
unfolding answer_to refusal_of acknowledged
answer_taken b (OfSeat n e) = effect_taken (seat b n) e
answer_taken b MasterReset = refl
answer_taken b (ReadController port) = refl
answer_taken b (WriteController port byte) = refl
answer_taken b Acknowledge = turn_taken b.controller (granted b.controller)

module _ (b : Bench) (r : Record) where
  pub outcome_taken : refusal b r ≡ 0 → outcome b r ≡ shown (after b (event r)) (answer_to b (event r))
  unfolding outcome
  outcome_taken none = pick_true _ _ _ (eq-eqb _ _ none)

  pub outcome_refused : (refusal b r ≡ 0 → ⊥) → outcome b r ≡ shown b (answer.Refused (refusal b r))
  unfolding outcome
  outcome_refused some = pick_false _ _ _ (ne_eqb _ _ some)

  -- the number in the answer is the refusal's
  pub outcome_number : refusal_of (outcome b r).answer ≡ refusal b r
  unfolding outcome refusal_of
  outcome_number =
      ⊎_elim
      (λ (none : eqb (refusal b r) 0 ≡ true).
      ap (λ (o : Outcome). refusal_of o.answer) (pick_true _ _ _ none) ∙ answer_taken b (event r) ∙ sym (eqb-true (refusal b r) 0 none))
      (λ (some : eqb (refusal b r) 0 ≡ false). ap (λ (o : Outcome). refusal_of o.answer) (pick_false _ _ _ some))
      (either_way (eqb (refusal b r) 0))

  -- the output is always the controller's after the event
  pub outcome_output : (outcome b r).output ≡ output_of (outcome b r).bench.controller
  unfolding outcome
  outcome_output =
      ⊎_elim
      (λ (none : eqb (refusal b r) 0 ≡ true).
      ap (λ (o : Outcome). o.output) (pick_true _ _ _ none) ∙ sym (ap (λ (o : Outcome). output_of o.bench.controller) (pick_true _ _ _ none)))
      (λ (some : eqb (refusal b r) 0 ≡ false).
      ap (λ (o : Outcome). o.output) (pick_false _ _ _ some) ∙ sym (ap (λ (o : Outcome). output_of o.bench.controller) (pick_false _ _ _ some)))
      (either_way (eqb (refusal b r) 0))
