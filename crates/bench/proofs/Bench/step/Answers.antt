use Rattle.std.proofs.Common.{ℕ, refl, ap, sym, ◌∙◌, ne_eqb}
use Rattle.records.specs.Events.{whole, record_of}
use Rattle.bench.specs.Steps.{outcome}
use Rattle.bench.proofs.PartLaws.{parts_stored, reset_outcome}
use Rattle.bench.proofs.Bench.step.Goals as goal

pub returns-then-whole-eq-MASTER_RESET : goal.returns-then-whole-eq-MASTER_RESET
returns-then-whole-eq-MASTER_RESET c =
    let b = c.args.self in
    let w = c.args.whole in
    c.reset.ensures
    ∙ sym (ap (λ (k : ℕ). outcome b (whole k w.seat w.number w.value)) c.if-whole-eq-MASTER_RESET.true ∙ reset_outcome b w.seat w.number w.value)

pub returns : goal.returns
returns c =
    let w = c.args.whole in
    c.show.ensures
    ∙ parts_stored c.args.self (record_of w) w.seat c.chair-at.result c.step_parts-touched.result _ refl c.chair-at.ensures c.step_parts-touched.ensures refl
    (ne_eqb _ _ c.if-whole-eq-MASTER_RESET.false)
