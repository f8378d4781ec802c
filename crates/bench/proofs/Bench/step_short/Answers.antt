use Rattle.std.proofs.Common.{ℕ, ◌≡◌, refl, ap, sym, ◌∙◌}
use Rattle.base.specs.Pick.{pick}
use Rattle.base.specs.Refusals.{first_of, refusal_by, number_of}
use Rattle.base.specs.declared.Answer.TheVariants.{Refused}
use Rattle.records.specs.Events.{short, early, decoded}
use Rattle.bench.specs.Steps.{shown, dealt}
use Rattle.bench.specs.MeetLaws.{outcome_dealt}
use Rattle.std.specs.Prelude.{Err}
use Rattle.bench.proofs.Bench.step_short.Goals as goal

decoded-short : decoded short ≡ Err 4
unfolding decoded early refusal_by first_of pick
decoded-short = refl

pub returns : goal.returns
unfolding dealt number_of
returns c =
    let b = c.args.self in
    c.show.ensures ∙ ap (λ (n : ℕ). shown b (Refused n)) c.number.ensures ∙ sym (outcome_dealt b short ∙ ap (dealt b) decoded-short)
