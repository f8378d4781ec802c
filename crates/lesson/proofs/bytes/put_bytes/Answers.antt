use mathlib.Core.Path.{sym, ap, ◌∙◌, ◌≡◌}
use native.Mathlib.Omega.{arith}
use lib.ListN.{get_or}
use Rattle.std.specs.Prelude.{None, Some}
use Rattle.text.specs.Hex.{digit_of}
use Rattle.base.specs.Pick.{pick}
use Rattle.lesson.proofs.Walks.{worth, put_start, put_past, put_first, put_second, put_room, put_end}
use Rattle.lesson.proofs.bytes.put_bytes.Goals as goal

pub loop-c-init : goal.loop-c-init
loop-c-init c = put_start _ _ c.requires

pub loop-c-preserved-in_default : goal.loop-c-preserved-in_default
loop-c-preserved-in_default c =
    let here = get_or c.args.text.now c.loop-c.c-index 0 in
    let told : None ≡ worth c.loop-c.comment here = c.in_default.ensures.0 ∙ ap (λ x. pick x None (digit_of here)) c.is_commented-comment.ensures in
    rw c.is_commented-comment.ensures (put_past _ _ _ _ _ _ _ c.loop-c.invariant (omega arith) told)

pub loop-c-preserved-in_default-high : goal.loop-c-preserved-in_default-high
loop-c-preserved-in_default-high c =
    let here = get_or c.args.text.now c.loop-c.c-index 0 in
    let told : Some c.in-Some.low ≡ worth c.loop-c.comment here = c.in-Some.ensures.0 ∙ ap (λ x. pick x None (digit_of here)) c.is_commented-comment.ensures in
    rw c.is_commented-comment.ensures (put_first _ _ _ _ _ _ _ c.loop-c.invariant (omega arith) c.in-Some.low told c.in-Some.ensures.1 (sym c.in_default-high.is))

pub bounds-out-at : goal.bounds-out-at
bounds-out-at c =
    let here = get_or c.args.text.now c.loop-c.c-index 0 in
    let told : Some c.in-Some.low ≡ worth c.loop-c.comment here = c.in-Some.ensures.0 ∙ ap (λ x. pick x None (digit_of here)) c.is_commented-comment.ensures in
    put_room _ _ _ _ _ _ _ c.loop-c.invariant (omega arith) c.in-Some.low told c.in-Some.ensures.1 c.in-Some-high.first (sym c.in-Some-high.is)

pub loop-c-preserved : goal.loop-c-preserved
loop-c-preserved c =
    let here = get_or c.args.text.now c.loop-c.c-index 0 in
    let told : Some c.in-Some.low ≡ worth c.loop-c.comment here = c.in-Some.ensures.0 ∙ ap (λ x. pick x None (digit_of here)) c.is_commented-comment.ensures in
    rw c.is_commented-comment.ensures (put_second _ _ _ _ _ _ _ c.loop-c.invariant (omega arith) c.in-Some.low told c.in-Some.ensures.1 c.in-Some-high.first (sym c.in-Some-high.is))

pub returns : goal.returns
returns c = put_end _ _ _ _ _ _ _ c.loop-c.invariant (omega arith)
