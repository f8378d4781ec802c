use Rattle.std.proofs.Common.{ℕ, ◌≡◌, ◌+◌, ◌*◌, true, false, map, refl, inl, inr, sym, ap, ◌∙◌, arith, add-zero, add_assoc}
use Rattle.seat.specs.Seats.{reset}
use Rattle.records.specs.Events.{Record, seat_named, resets}
use Rattle.records.specs.Parts.{parted}
use Rattle.bench.specs.declared.Bench.{Bench}
use Rattle.bench.specs.Seats.{chair}
use Rattle.bench.proofs.PartLaws.{parts_told, either_stored}
use Rattle.listing.specs.KeptLaws.{fronts_stay}
use Rattle.listing.specs.Places.{record_at}
use Rattle.listing.specs.RunLaws.{record_place_lem}
use Rattle.listing.proofs.Turn.{told_put, start, turn, full, end_is, ahead, ended, stopped}
use Rattle.listing.proofs.runs.run.Goals as goal
use Rattle.listing.proofs.runs.run.Goals.{then-resets, else-resets, else-loop-k-test, then-loop-k-test+then-next-written}

pub loop-k-init : goal.loop-k-init
loop-k-init c = (
  refl,
  start _ _ _ _,
  record { size = c.of-front.ensures.size; fronts = λ within. rw add-zero c.of-front.ensures },
)

pub overflow_mul-k : goal.overflow_mul-k
overflow_mul-k c =
    omega (arith, (ahead c.args.last c.args.input.now c.args.n _ c.loop-k.k (end_is _ _ _ _ _ c.record_count.ensures c.numbered-end.ensures) c.loop-k-test.true).1)

pub record_at-held-requires : goal.record_at-held-requires
record_at-held-requires c =
    (ahead c.args.last c.args.input.now c.args.n _ c.loop-k.k (end_is _ _ _ _ _ c.record_count.ensures c.numbered-end.ensures) c.loop-k-test.true).1

pub loop-k-preserved : goal.loop-k-preserved
loop-k-preserved c =
    let a = c.args in
    let i = c.loop-k in
    let r = record_at a.input.now (4 * i.k) in
    let h = ahead a.last a.input.now a.n _ i.k (end_is _ _ _ _ _ c.record_count.ensures c.numbered-end.ensures) c.loop-k-test.true in
    let held = c.record_at-held.ensures in
    let sits = c.chair-at.ensures ∙ ap (λ (x : Record). chair (seat_named x)) held in
    let met = c.meet-met.ensures ∙ ap (parted _ _) held in
    let told = parts_told _ r _ _ _ _ refl sits met c.output-high.ensures in
    let turned =
    turn _ _ _ _ _ _ _ _ _ r _ _ i.invariant.1
    (told_put _ _ _ _ _ _ _ _ _ _ (c.shown.ensures ∙ c.keep.ensures.shown) h.2 told c.put_after-next.ensures) h.0
    (record_place_lem a.last a.input.now _ h.0) c.if-next-written.false h.2 in
    let stored =
    either_stored i.bench c.if-resets.bench r _ _ _ refl sits met
    (elim c.if-resets.branch [
      | then-resets w ↦ inl (sym (c.resets.ensures ∙ ap resets held) ∙ w.if-resets.true, ap (λ (b : Bench). b.seats) w.bench-is ∙ w.reset_all-bench.ensures)
      | else-resets w ↦ inr (sym (c.resets.ensures ∙ ap resets held) ∙ w.if-resets.false, ap (λ (b : Bench). b.seats) w.bench-is)
    ])
    (λ (p : (resets r ≡ true) × (c.if-resets.bench.seats ≡ map reset i.bench.seats)). p)
    (λ (p : (resets r ≡ false) × (c.if-resets.bench.seats ≡ i.bench.seats)). p) in (
      ap (λ (n : ℕ). n + 1) i.invariant.0,
      rw (stored, told.0) turned,
      rw (← add_assoc a.n i.k 1) (fronts_stay _ _ _ c.keep.ensures),
    )

pub returns : goal.returns
returns c =
    let a = c.args in
    let i = c.loop-k in
    rw (c.used.ensures, i.invariant.0)
    (elim c.loop-k-test.branch [
      | else-loop-k-test w ↦
          let over : i.k ≡ c.numbered-end.result = omega (arith, w.loop-k-test.false) in
          rw w.out-is (ended _ _ _ _ _ _ _ _ _ _ i.invariant.1 (over ∙ end_is a.last a.input.now a.n _ _ c.record_count.ensures c.numbered-end.ensures))
      | then-loop-k-test+then-next-written w ↦
          let r = record_at a.input.now (4 * i.k) in
          let h = ahead a.last a.input.now a.n _ i.k (end_is _ _ _ _ _ c.record_count.ensures c.numbered-end.ensures) w.loop-k-test.true in
          let held = w.record_at-held.ensures in
          let sits = w.chair-at.ensures ∙ ap (λ (x : Record). chair (seat_named x)) held in
          let met = w.meet-met.ensures ∙ ap (parted _ _) held in
          let told = parts_told _ r _ _ _ _ refl sits met w.output-high.ensures in
          let stop =
          full _ _ _ _ _ _ _ _ _ r _ _ i.invariant.1
          (told_put _ _ _ _ _ _ _ _ _ _ (w.shown.ensures ∙ w.keep.ensures.shown) h.2 told w.put_after-next.ensures) h.0
          (record_place_lem a.last a.input.now _ h.0) w.if-next-written.true in
          rw w.out-is (stopped _ _ _ _ _ _ _ _ _ _ stop.0 stop.1)
    ])
