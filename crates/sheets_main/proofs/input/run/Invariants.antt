use Rattle.std.proofs.Common.{◌≡◌, ◌+◌, ◌*◌, ◌≤◌, length}
use Rattle.sheets_main.proofs.input.run.Given as goal

abbrev pub invariant-loop : goal.invariant-loop
invariant-loop g l =
    (length l.block ≡ 65536) × (length l.out ≡ 1048576) × (l.begun.number ≤ 65536 * l.counter + 1)
