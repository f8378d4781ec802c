-- What is accepted is done, and what a refusal leaves.
use Rattle.std.specs.Prelude.{true, false, ◌≡◌}
use Rattle.std.proofs.Common.{◌∙◌}
use Rattle.base.specs.PickLaws.{pick_true, pick_false}
use Rattle.base.specs.declared.Answer.TheVariants.{Refused}
use Rattle.registers.specs.declared.SeatEvent.{SeatEvent}
use Rattle.registers.specs.Refusals.{refusal}
use Rattle.registers.proofs.RefusalLaws.{accepts, accepted}
use Rattle.channel.specs.declared.Channel.{Channel}
use Rattle.channel.specs.Steps.{effect, stepped}

-- what is accepted is done
pub done : (c : Channel) (e : SeatEvent) → accepts c.settings e ≡ true → stepped c e ≡ effect c e
unfolding stepped
done c e fine = pick_true _ _ _ (accepted c.settings e ∙ fine)

-- "The answer of every refusal is FFF and nothing changes."
pub refused : (c : Channel) (e : SeatEvent) → accepts c.settings e ≡ false → stepped c e ≡ record { channel = c; answer = Refused (refusal c.settings e) }
unfolding stepped
refused c e wrong = pick_false _ _ _ (accepted c.settings e ∙ wrong)
