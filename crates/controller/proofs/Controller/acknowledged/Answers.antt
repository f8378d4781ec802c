use Rattle.std.proofs.Common.{rules, sym, ap, ap₂, ◌∙◌, ℕ}
use Rattle.base.specs.declared.Answer.TheVariants.{Vector, Spurious}
use Rattle.controller.specs.declared.Controller.{Controller}
use Rattle.controller.specs.declared.Signalled.{Signalled}
use Rattle.controller.specs.Turns.{answered, acknowledged}
use Rattle.controller.proofs.FoundLaws.{granted_found}
use Rattle.controller.proofs.Controller.acknowledged.Goals as goal

pub returns-in-Some : goal.returns-in-Some
unfolding acknowledged
returns-in-Some c = let s = c.args.self in
    ap₂ {C = Signalled} (λ (k : Controller) (v : ℕ). record { controller = k; answer = Vector v }) c.grant.ensures c.vector.ensures
    ∙ ap (answered s)
    (sym c.in-Some.is
    ∙ granted_found s _ (λ k n g. search rules) _ _ c.asking.ensures c.hindering.ensures _ c.first_above-place.ensures _ c.map.ensures.cases)

pub returns-in-None : goal.returns-in-None
unfolding acknowledged
returns-in-None c = let s = c.args.self in
    ap {B = Signalled} (λ (v : ℕ). record { controller = s; answer = Spurious v }) c.vector-in-None.ensures
    ∙ ap (answered s)
    (sym c.in-None.is
    ∙ granted_found s _ (λ k n g. search rules) _ _ c.asking.ensures c.hindering.ensures _ c.first_above-place.ensures _ c.map.ensures.cases)
