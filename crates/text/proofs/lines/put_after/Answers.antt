use Prim.Native.Nat.{◌+◌, ◌<◌, ◌^◌}
use mathlib.Core.Path.{◌≡◌, sym, ◌∙◌}
use mathlib.Core.Bool.{true, false}
use native.Mathlib.Omega.{arith}
use lib.Dec.{leb}
use lib.ListN.{length}
use borrow.Author.Tests.{lt-leb, leb-true}
use Rattle.base.specs.PickLaws.{pick_true, pick_false}
use Rattle.base.specs.Answers.{refusal_of}
use Rattle.text.specs.Front.{line_after}
use Rattle.text.specs.LineLaws.{room_after, after_short}
use Rattle.text.proofs.lines.put_after.Goals as goal

pub returns-then-length-at : goal.returns-then-length-at
returns-then-length-at c = let a = c.args in
    let no : leb (a.at + length (line_after a.front.now a.n a.answer a.output)) (length a.out.now) ≡ false =
    lt-leb (a.at + length (line_after a.front.now a.n a.answer a.output)) (length a.out.now) (omega arith) in
    let byte : refusal_of a.answer < 10 ^ 3 = omega (arith, c.refusal-refusal.ensures) in
    record { next = sym (pick_false _ _ _ no); bytes = sym (pick_false _ _ _ no); short = after_short a.front.now a.n a.answer a.output byte }

pub write_after-requires : goal.write_after-requires
write_after-requires c = let a = c.args in
    leb-true (a.at + length (line_after a.front.now a.n a.answer a.output)) (length a.out.now)
    (sym (room_after a.at (length a.out.now) c.refusal-refusal.result a.front.now a.n a.answer a.output c.refusal-refusal.ensures (omega arith))
    ∙ sym c.holds.ensures
    ∙ c.if-holds.true)

pub returns-then-holds : goal.returns-then-holds
returns-then-holds c = let a = c.args in
    let yes : leb (a.at + length (line_after a.front.now a.n a.answer a.output)) (length a.out.now) ≡ true =
    sym (room_after a.at (length a.out.now) c.refusal-refusal.result a.front.now a.n a.answer a.output c.refusal-refusal.ensures (omega arith))
    ∙ sym c.holds.ensures
    ∙ c.if-holds.true in
    let byte : refusal_of a.answer < 10 ^ 3 = omega (arith, c.refusal-refusal.ensures) in
    record {
      next = c.write_after.ensures.0 ∙ sym (pick_true _ _ _ yes);
      bytes = c.write_after.ensures.1 ∙ sym (pick_true _ _ _ yes);
      short = after_short a.front.now a.n a.answer a.output byte;
    }

pub returns : goal.returns
returns c = let a = c.args in
    let no : leb (a.at + length (line_after a.front.now a.n a.answer a.output)) (length a.out.now) ≡ false =
    sym (room_after a.at (length a.out.now) c.refusal-refusal.result a.front.now a.n a.answer a.output c.refusal-refusal.ensures (omega arith))
    ∙ sym c.holds.ensures
    ∙ c.if-holds.false in
    let byte : refusal_of a.answer < 10 ^ 3 = omega (arith, c.refusal-refusal.ensures) in
    record { next = sym (pick_false _ _ _ no); bytes = sym (pick_false _ _ _ no); short = after_short a.front.now a.n a.answer a.output byte }
