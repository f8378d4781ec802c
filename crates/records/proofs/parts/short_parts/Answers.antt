use Rattle.std.proofs.Common.{ap}
use Rattle.std.specs.Prelude.{ℕ}
use Rattle.base.specs.Pick.{pick}
use Rattle.base.specs.Refusals.{number_of, first_of, refusal_by}
use Rattle.base.specs.declared.Answer.TheVariants.{Refused}
use Rattle.records.specs.declared.Touched.{Touched}
use Rattle.records.specs.Events.{early, decoded}
use Rattle.records.specs.Parts.{dealt_parts}
use Rattle.records.proofs.parts.short_parts.Goals as goal

pub returns : goal.returns
unfolding number_of dealt_parts decoded early refusal_by first_of pick
returns c = ap {B = Touched} (λ (n : ℕ). record { seat = c.args.seat; controller = c.args.controller; answer = Refused n }) c.number.ensures
