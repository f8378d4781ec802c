use Rattle.base.specs.PickLaws.{pick_true, pick_false}
use Rattle.lesson.specs.Cause.{begun_in, begins}
use Rattle.lesson.proofs.Walks.{behind_on, begun_on, behind_end, begun_end}
use mathlib.Core.Path.{refl, sym, ◌∙◌}
use native.Mathlib.Omega.{arith}
use lib.ListN.{get_or}
use Rattle.lesson.proofs.causes.begun_behind.Goals as goal
use Rattle.lesson.proofs.causes.begun_behind.Goals.{then-begins, else-begins}

pub loop-i-init : goal.loop-i-init
unfolding begun_in
loop-i-init c = record { reading = refl; begun = refl }

pub loop-i-preserved : goal.loop-i-preserved
loop-i-preserved c =
    let on = begun_on c.loop-i.reading c.loop-i.begun c.args.text.now c.loop-i.i (omega arith) in
    record {
      reading = c.loop-i.invariant.reading ∙ behind_on c.loop-i.reading c.loop-i.begun c.args.text.now c.loop-i.i (omega arith) ∙ rw (← c.after-reading.ensures);
      begun = elim c.if-begins.branch [
        | then-begins w ↦ let here = pick_true (begins c.loop-i.reading (get_or c.args.text.now c.loop-i.i 0)) c.loop-i.i c.loop-i.begun (sym c.begins.ensures ∙ w.if-begins.true) in cc
        | else-begins w ↦ let before = pick_false (begins c.loop-i.reading (get_or c.args.text.now c.loop-i.i 0)) c.loop-i.i c.loop-i.begun (sym c.begins.ensures ∙ w.if-begins.false) in cc
      ];
    }

pub returns : goal.returns
returns c = (
  sym (c.loop-i.invariant.reading ∙ behind_end c.loop-i.reading c.loop-i.begun c.args.text.now c.loop-i.i (omega arith)),
  sym (c.loop-i.invariant.begun ∙ begun_end c.loop-i.reading c.loop-i.begun c.args.text.now c.loop-i.i (omega arith)),
)
