use Rattle.std.proofs.Common.{◌≤◌, sym, ◌∙◌, ap, arith, List, ℕ, Some, take, length, length-drop}
use Rattle.base.specs.PickLaws.{pick_true}
use borrow.Author.Tests.{le-leb, lt-leb}
use Rattle.seat_image.proofs.BackLaws.{older_told}
use Rattle.seat_image.specs.Read.{has_tallies, tallies_told}
use Rattle.seat_image.specs.ReadLaws.{has_own, has_none, front_fits, lent_to_end}
use Rattle.seat_image.proofs.reading.tallies_of.Goals as goal

pub returns-then-version-lt-WITH_TALLIES : goal.returns-then-version-lt-WITH_TALLIES
returns-then-version-lt-WITH_TALLIES c =
    let a = c.args in
    (λ i. Some (record { arrived = c.from.ensures i; read = 0; lost = 0; dropped = 0 }))
    ∙ sym (ap (λ (b : List ℕ). tallies_told b a.queued) (has_none a.version a.part.now a.queued (lt-leb _ _ c.if-version-lt-WITH_TALLIES.true))
    ∙ older_told a.queued (omega (arith, c.ranges.queued.fits)))

pub slice_bounds-first_chunk-count : goal.slice_bounds-first_chunk-count
slice_bounds-first_chunk-count c = omega (arith, front_fits c.args.version c.args.part.now c.requires)

pub slice_bounds-first_chunk-start : goal.slice_bounds-first_chunk-start
slice_bounds-first_chunk-start c = omega (arith, front_fits c.args.version c.args.part.now c.requires)

pub returns-in_err-block : goal.returns-in_err-block
returns-in_err-block c =
    let p = c.args.part.now in
    let long : 86 ≤ length p
    = omega (arith, c.requires, pick_true {A = ℕ} (has_tallies c.args.version) 86 66 (le-leb _ _ c.if-version-lt-WITH_TALLIES.false)) in
    absurd (omega (arith, c.in_err-block.ensures.cases, ap length (lent_to_end 66 p), length-drop 66 p, long))

pub returns : goal.returns
returns c =
    let a = c.args in
    c.tallies_told.ensures
    ∙ ap (λ (b : List ℕ). tallies_told b a.queued)
    (c.in_ok-block.ensures.cases.same ∙ ap (take 20) (lent_to_end 66 a.part.now)
    ∙ sym (has_own a.version a.part.now a.queued (le-leb _ _ c.if-version-lt-WITH_TALLIES.false)))
