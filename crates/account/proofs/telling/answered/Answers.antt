use mathlib.Core.Path.{ap, sym, ◌∙◌}
use native.Mathlib.Omega.{arith}
use Rattle.controller.specs.Turns.{output_of}
use Rattle.bench.specs.declared.Bench.{Bench}
use Rattle.bench.specs.OutcomeLaws.{outcome_output}
use Rattle.listing.proofs.RoomLaws.{one_answered}
use Rattle.account.proofs.telling.answered.Goals as goal

pub returns : goal.returns
returns c = let told = one_answered _ _ _ _ _ _ _ _ _ _ (omega arith) (omega arith) c.run-ran.ensures in λ i. record {
  bench = told.0 i;
  answer = told.1 i;
  output = (c.output.ensures ∙ ap (λ (b : Bench). output_of b.controller) told.0 ∙ sym (outcome_output _ _)) i;
}
