use Rattle.std.proofs.Common.{ℕ, Option, Result, ap, sym, subst, ◌≡◌, ◌∙◌, eqb, arith, IfOk, ok_or}
use Rattle.std.specs.Result.{result_err}
use Rattle.base.proofs.GivenLaws.{some_number}
use Rattle.base.specs.Refusals.{number_given}
use Rattle.base.specs.declared.Refusal.{Refusal}
use Rattle.base.specs.declared.Refusal.TheVariants.{NoSuchBench}
use Rattle.bench.specs.declared.Bench.{Bench}
use Rattle.image.specs.BodyLaws.{read_bench, read_refusal, err_passed}
use Rattle.image.specs.Layout.{length_in}
use Rattle.image.specs.Read.{bench_from}
use Rattle.image.specs.RefusalLaws.{refusal_first, header_facts}
use Rattle.image.proofs.reading.read.Goals as goal

pub body_of-requires-clause-long : goal.body_of-requires-clause-long
unfolding number_given
body_of-requires-clause-long c =
    let taken = header_facts c.args.p.now (sym c.in_ok-version.ensures.refusal) in
    omega (arith, taken.long, ap length_in c.in_ok-version.ensures.version)

pub returns-in_err-version-clause-refusal : goal.returns-in_err-version-clause-refusal
unfolding number_given
returns-in_err-version-clause-refusal c =
    let e = c.in_err-version.field-0.0 in
    let number = c.in_err-version.ensures.refusal in
    ap number_given (err_passed c.from_residual.result e c.from_residual.ensures.0 c.from_residual.ensures.1) ∙ number
    ∙ sym (refusal_first c.args.p.now (ap (λ (n : ℕ). eqb n 0) (sym number) ∙ some_number e))

pub returns-clause-refusal : goal.returns-clause-refusal
unfolding number_given
returns-clause-refusal c =
    ap (λ (r : Result Bench Refusal). number_given (result_err r))
    (c.ok_or.ensures.value ∙ ap (λ (o : Option Bench). ok_or o NoSuchBench) c.body_of.ensures)
    ∙ read_refusal c.args.p.now (sym c.in_ok-version.ensures.refusal)

pub returns-clause-bench : goal.returns-clause-bench
returns-clause-bench c =
    subst (λ (r : Result Bench Refusal). IfOk r (λ b. b ≡ bench_from c.args.p.now))
    (sym (c.ok_or.ensures.value ∙ ap (λ (o : Option Bench). ok_or o NoSuchBench) c.body_of.ensures))
    (read_bench c.args.p.now)
