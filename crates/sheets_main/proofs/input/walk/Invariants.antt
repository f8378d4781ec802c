use Rattle.std.proofs.Common.{◌≡◌, ◌+◌, ◌*◌, ◌≤◌, length}
use Rattle.sheets_main.proofs.input.walk.Given as goal

abbrev pub invariant-loop-c : goal.invariant-loop-c
invariant-loop-c g l =
    (length l.out ≡ 1048576) × (l.begun.number ≤ l.fn.start.number + l.c-index) × (l.end ≤ 16 * l.c-index)
