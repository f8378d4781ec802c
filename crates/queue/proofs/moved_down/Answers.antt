use Prim.Native.Nat.{◌+◌, ◌-◌, ◌≤◌}
use mathlib.Core.List.{List}
use mathlib.Core.Path.{◌≡◌, refl, ap, ◌∙◌}
use native.Mathlib.Omega.{arith}
use lib.ListN.{get_or, set}
use borrow.Author.Rules.{rules}
use Rattle.queue.specs.declared.Character.{Character}
use Rattle.queue.specs.Queue.{no_character}
use Rattle.queue.proofs.Moves.{moving, moves_one, moves_all}
use Rattle.queue.proofs.moved_down.Goals as goal

pub loop-i-init : goal.loop-i-init
loop-i-init c = (omega arith, refl)

pub loop-i-preserved : goal.loop-i-preserved
loop-i-preserved c = let l = c.loop-i in
    let s = c.args.s in
    (omega arith, ap (λ (m : List Character). set m l.i (get_or s (l.i + 1) no_character)) l.invariant.1 ∙ moves_one s (search rules) l.i (omega arith))

pub returns : goal.returns
returns c = let l = c.loop-i in
    l.invariant.1 ∙ moves_all c.args.s (search rules) l.i (omega arith)
