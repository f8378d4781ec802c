-- The output tells the next acknowledge.
use Rattle.std.specs.Prelude.{ℕ, true, false, ◌≡◌, refl, Ok}
use Rattle.std.proofs.Math.Path.{ap}
use Rattle.std.proofs.Common.{sym, ◌∙◌}
use Rattle.base.specs.Pick.{pick}
use Rattle.base.specs.Refusals.{first_of, refusal_by}
use Rattle.base.specs.declared.Answer.TheVariants.{Vector, Spurious}
use Rattle.controller.specs.declared.Signalled as controller
use Rattle.controller.specs.State.{ready}
use Rattle.controller.specs.Turns.{output_of, grant, vector}
use Rattle.controller.proofs.OutputLaws.{output_high, output_low}
use Rattle.records.specs.declared.Event.TheVariants.{Acknowledge}
use Rattle.records.specs.Events.{whole, early, event_of, decoded}
use Rattle.bench.specs.declared.Bench.{Bench}
use Rattle.bench.specs.Seats.{with_controller}
use Rattle.bench.specs.Steps.{shown, met, outcome, dealt}
use Rattle.bench.specs.MeetLaws.{acknowledge_met, outcome_dealt}

-- kind 8 is an acknowledge, whatever the other bytes
decoded_8 : (s n v : ℕ) → decoded (whole 8 s n v) ≡ Ok Acknowledge
unfolding decoded early event_of refusal_by first_of pick
decoded_8 s n v = refl

module _ (b : Bench) (s n v : ℕ) where
  acknowledged : outcome b (whole 8 s n v) ≡ met b Acknowledge
  unfolding dealt
  acknowledged = outcome_dealt b (whole 8 s n v) ∙ ap (dealt b) (decoded_8 s n v)

  -- output 1: a vector comes, of a line that stands unmasked
  pub output_1 : (high : output_of b.controller ≡ true)
      → (let m = output_high b.controller high in
      outcome b (whole 8 s n v) ≡ shown (with_controller b (grant b.controller m.line)) (Vector (vector b.controller.setup m.line)))
  output_1 high =
      acknowledged ∙ sym (acknowledge_met b)
      ∙ ap (λ (t : controller.Signalled). shown (with_controller b t.controller) t.answer) (output_high b.controller high).names

  -- ready and output 0: 1xx comes, and an equal bench
  pub output_0 : ready b.controller.setup ≡ true → output_of b.controller ≡ false
      → outcome b (whole 8 s n v) ≡ shown b (Spurious (vector b.controller.setup 7))
  output_0 up low =
      acknowledged ∙ sym (acknowledge_met b)
      ∙ ap (λ (t : controller.Signalled). shown (with_controller b t.controller) t.answer) (output_low b.controller up low)
