use Rattle.std.specs.Prelude.{Some}
use Rattle.base.specs.PickLaws.{pick_true, pick_false}
use borrow.Author.Tests.{eq-eqb, ne_eqb}
use Rattle.lesson.proofs.Walks.{fault_here, fault_on, fault_end}
use mathlib.Core.Path.{refl, sym, ap, ◌∙◌, ◌≡◌}
use Rattle.lesson.specs.Fault.{fault_of}
use native.Mathlib.Omega.{arith}
use lib.ListN.{length}
use Rattle.lesson.proofs.faults.first_fault.Goals as goal

pub loop-i-init : goal.loop-i-init
unfolding fault_of
loop-i-init c = refl

pub returns-then-is_faulty : goal.returns-then-is_faulty
returns-then-is_faulty c = sym (c.loop-i.invariant ∙ fault_here c.loop-i.reading c.args.text.now c.loop-i.i (omega arith) (sym c.is_faulty.ensures ∙ c.if-is_faulty.true))

pub loop-i-preserved : goal.loop-i-preserved
loop-i-preserved c =
    c.loop-i.invariant ∙ fault_on c.loop-i.reading c.args.text.now c.loop-i.i (omega arith) (sym c.is_faulty.ensures ∙ c.if-is_faulty.false) ∙ rw (← c.after-reading.ensures)

pub returns-then-reading-eq1 : goal.returns-then-reading-eq1
returns-then-reading-eq1 c = let done : c.loop-i.i ≡ length c.args.text.now = omega arith in
    sym (c.loop-i.invariant ∙ fault_end c.loop-i.reading c.args.text.now c.loop-i.i (omega arith) ∙ pick_true _ _ _ (eq-eqb _ _ c.if-reading-eq1.true) ∙ ap Some done)

pub returns : goal.returns
returns c = sym (c.loop-i.invariant ∙ fault_end c.loop-i.reading c.args.text.now c.loop-i.i (omega arith) ∙ pick_false _ _ _ (ne_eqb _ _ c.if-reading-eq1.false))
