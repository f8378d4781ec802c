use Rattle.std.proofs.Common.{ℕ, Bor, List, ap, sym, refl, ◌≡◌, ◌∙◌, ⊎_elim, eqb, arith, drop}
use Rattle.base.specs.declared.Answer.TheVariants.{Done, Refused}
use Rattle.base.proofs.GivenLaws.{some_number}
use Rattle.base.specs.Refusals.{number_given}
use Rattle.image.proofs.RestoredLaws.{restored_taken, restored_left}
use Rattle.image.specs.BodyLaws.{rest_read}
use Rattle.image.specs.Refusals.{restored}
use Rattle.image.proofs.reading.restore.Goals as goal

pub returns-in-Ok : goal.returns-in-Ok
unfolding number_given
returns-in-Ok c =
    let b = c.args.bench in
    let p = c.unwrap_or.result.now in
    let rest : p ≡ drop c.args.at c.args.input.now
    = ap (λ (r : Bor (List ℕ)). r.now) c.unwrap_or.ensures
    ∙ rest_read c.args.input.now c.args.at c.get.result _ _ _ refl c.get.ensures.lookup.0
    (λ past. ⊎_elim (λ h. h) (λ h. absurd (omega (arith, h))) past) (λ x q. q.2) in
    (λ i. record { bench = c.in-Ok.ensures.bench i; answer = Done }) ∙ sym (restored_taken b p (sym c.in-Ok.ensures.refusal)) ∙ ap (restored b) rest

pub returns-in-Err : goal.returns-in-Err
unfolding number_given
returns-in-Err c =
    let b = c.args.bench in
    let p = c.unwrap_or.result.now in
    let number = c.in-Err.ensures.refusal in
    let rest : p ≡ drop c.args.at c.args.input.now
    = ap (λ (r : Bor (List ℕ)). r.now) c.unwrap_or.ensures
    ∙ rest_read c.args.input.now c.args.at c.get.result _ _ _ refl c.get.ensures.lookup.0
    (λ past. ⊎_elim (λ h. h) (λ h. absurd (omega (arith, h))) past) (λ x q. q.2) in
    (λ i. record { bench = b; answer = Refused ((c.number.ensures ∙ number) i) })
    ∙ sym (restored_left b p (ap (λ (n : ℕ). eqb n 0) (sym number) ∙ some_number c.in-Err.refusal))
    ∙ ap (restored b) rest
