use Rattle.std.specs.Prelude.{ℕ, Option, Some, None, ◌≡◌}
use Rattle.std.proofs.Common.{ap, sym, ◌∙◌}
use Rattle.std.specs.Option.{unwrap_or}
use Rattle.base.specs.Pick.{pick}
use Rattle.base.specs.PickLaws.{pick_false}
use Rattle.base.specs.Refusals.{number_of, number_given}
use Rattle.base.proofs.GivenLaws.{some_number}
use Rattle.base.specs.declared.Refusal.{Refusal}
use Rattle.base.specs.declared.Refusal.TheVariants.{TallyFull}
use Rattle.base.specs.declared.Answer.TheVariants.{Refused}
use Rattle.seat.specs.Counts.{last_number}
use Rattle.seat.proofs.Seat.refuse_last.Goals as goal

-- what the channel refuses goes first
last_given : (o : Option Refusal) (n : ℕ) → number_given o ≡ n → number_of (unwrap_or o TallyFull) ≡ last_number n
unfolding number_given number_of pick
last_given None n none = rw (← none)
last_given (Some r) n one = rw (← one) (sym (pick_false _ _ _ (some_number r)))

pub returns : goal.returns
returns c =
    let number = c.number.ensures ∙ ap number_of c.unwrap_or-refusal.ensures ∙ last_given _ _ c.refusal.ensures in
    ap (λ (n : ℕ). record { seat = c.args.self; answer = Refused n }) number
