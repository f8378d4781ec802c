use Rattle.std.proofs.Common.{Err}
use Rattle.std.proofs.lemmas.Result.{err_from_is_err_and}
use mathlib.Core.Path.{refl, sym, ◌∙◌}
use Rattle.base.specs.declared.Refusal.TheVariants.{NoSetting}
use Rattle.setting_lines.proofs.RateLaws.{found_small}
use Rattle.setting_lines.proofs.Ends.{written_listed, written_unlisted, written_none}
use Rattle.setting_lines.proofs.write.Goals as goal

pub returns-then-not-is_good : goal.returns-then-not-is_good
returns-then-not-is_good c = let a = c.args in
    written_none a.clock a.divisor a.lcr a.out.now a.out.now (Err NoSetting) (sym c.is_good.ensures ∙ c.if-not-is_good.true) refl

pub returns-in_err-rate : goal.returns-in_err-rate
returns-in_err-rate c =
    let a = c.args in
    let p = err_from_is_err_and c.from_residual.result c.from_residual.ensures.1 in
    rw (p.1, p.2)
    (written_unlisted a.clock a.divisor a.lcr a.out.now a.out.now _ (sym c.is_good.ensures ∙ c.if-not-is_good.false) _ (sym c.rate.ensures ∙ c.in_err-rate.was) refl)

pub write_line-requires : goal.write_line-requires
write_line-requires c = let a = c.args in found_small a.divisor a.clock _ (sym c.rate.ensures ∙ c.in_ok-rate.was)

pub returns : goal.returns
returns c = let a = c.args in
    written_listed a.clock a.divisor a.lcr a.out.now _ _ (sym c.is_good.ensures ∙ c.if-not-is_good.false) c.in_ok-rate.rate (sym c.rate.ensures ∙ c.in_ok-rate.was) c.write_line.ensures
