use Rattle.std.specs.Prelude.{ℕ, Some, ◌≡◌}
use Rattle.std.proofs.Common.{ap, sym, ◌∙◌}
use Rattle.base.specs.Refusals.{number_given}
use Rattle.base.proofs.GivenLaws.{some_left}
use Rattle.base.specs.declared.Answer.TheVariants.{Refused}
use Rattle.registers.specs.Refusals.{refusal}
use Rattle.channel.specs.Steps.{answered, stepped, effect}
use Rattle.channel.proofs.Channel.step.Goals as goal

pub returns-in-Some : goal.returns-in-Some
unfolding stepped
returns-in-Some c =
    let a = c.args in
    let given : number_given (Some c.in-Some.refusal) ≡ refusal a.self.settings a.e = ap number_given (sym c.in-Some.is) ∙ c.refusal.ensures in
    c.answered.ensures ∙ ap (λ (n : ℕ). answered a.self (Refused n)) c.number.ensures
    ∙ some_left _ _ (effect a.self a.e) (λ (n : ℕ). answered a.self (Refused n)) given
