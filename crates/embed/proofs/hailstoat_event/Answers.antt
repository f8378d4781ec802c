-- A record goes to one of two functions by its kind, and what either ensures is the outcome of the record.
use Rattle.std.proofs.Common.{ℕ, ◌≡◌, ap, subst, sym, ◌∙◌, ne_eqb}
use Rattle.records.specs.Events.{whole}
use Rattle.bench.specs.declared.Outcome.{Outcome}
use Rattle.bench.specs.Steps.{outcome}
use Rattle.bench.proofs.PartLaws.{parted_outcome, reset_outcome}
use Rattle.c_bench.specs.Told.{Told}
use Rattle.embed.proofs.hailstoat_event.Goals as goal

pub returns-then-kind-eq-MASTER_RESET : goal.returns-then-kind-eq-MASTER_RESET
returns-then-kind-eq-MASTER_RESET c =
    let b = c.args.bench.now in
    subst (λ (o : Outcome). (c.reset_event.new.bench ≡ o.bench) × Told c.reset_event.result o)
    (sym
    (ap (λ (k : ℕ). outcome b (whole k c.args.seat c.args.number c.args.value)) c.if-kind-eq-MASTER_RESET.true
    ∙ reset_outcome b c.args.seat c.args.number c.args.value))
    c.reset_event.ensures

pub returns : goal.returns
returns c =
    let b = c.args.bench.now in
    let r = whole c.args.kind c.args.seat c.args.number c.args.value in
    subst (λ (o : Outcome). (c.seat_event.new.bench ≡ o.bench) × Told c.seat_event.result o)
    (parted_outcome b r (ne_eqb _ _ c.if-kind-eq-MASTER_RESET.false))
    c.seat_event.ensures
