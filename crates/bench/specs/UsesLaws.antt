-- Two records that agree on the bytes their kind uses have the same outcome.
use Rattle.std.specs.Prelude.{ℕ, ◌≡◌}
use Rattle.std.proofs.Common.{ap, sym, ◌∙◌}
use Rattle.records.specs.Events.{whole}
use Rattle.records.specs.Uses.{Agree}
use Rattle.records.specs.UsesLaws.{decoded_alike}
use Rattle.bench.specs.declared.Bench.{Bench}
use Rattle.bench.specs.Steps.{outcome, dealt}
use Rattle.bench.specs.MeetLaws.{outcome_dealt}

pub outcome_alike : (b : Bench) (k s n v s' n' v' : ℕ) → Agree k s n v s' n' v' → outcome b (whole k s n v) ≡ outcome b (whole k s' n' v')
outcome_alike b k s n v s' n' v' a =
    outcome_dealt b (whole k s n v) ∙ ap (dealt b) (decoded_alike k s n v s' n' v' a) ∙ sym (outcome_dealt b (whole k s' n' v'))
