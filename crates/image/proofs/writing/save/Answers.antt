use Rattle.std.proofs.Common.{◌≡◌, false, sym, ◌∙◌, arith}
use Rattle.base.specs.declared.Answer.TheVariants.{Refused}
use Rattle.base.specs.PickLaws.{pick_true, pick_false}
use Rattle.base.specs.Refusals.{number_of}
use Rattle.image.proofs.Numbering.{has_room, no_room}
use Rattle.image.specs.Written.{room_for}
use Rattle.image.proofs.writing.save.Goals as goal
use Rattle.image.proofs.writing.save.Goals.{then-out-at-via-then-out-at, then-out-at-via-else-out-at+then-out-at-lt-LENGTH}

pub returns-then-out-at : goal.returns-then-out-at
unfolding number_of
returns-then-out-at c =
    let a = c.args in
    let none : room_for 704 a.out.now a.at ≡ false
    = no_room a.out.now a.at
    (elim c.then-out-at.branch [
      | then-out-at-via-then-out-at w ↦ omega (arith, w.if-out-at.true)
      | then-out-at-via-else-out-at+then-out-at-lt-LENGTH w ↦ omega (arith, w.if-out-at.false, w.if-out-at-lt-LENGTH.true)
    ]) in
    record { answer = (λ i. Refused (c.number.ensures i)) ∙ sym (pick_false _ _ _ none); bytes = sym (pick_false _ _ _ none) }

pub returns : goal.returns
returns c =
    let room = has_room c.args.out.now c.args.at (omega (arith, c.if-out-at.false, c.if-out-at-lt-LENGTH.false)) in
    record { answer = sym (pick_true _ _ _ room); bytes = c.put_image.ensures ∙ sym (pick_true _ _ _ room) }
