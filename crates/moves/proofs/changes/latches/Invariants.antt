use Rattle.std.proofs.Common.{◌≡◌, ◌+◌, ◌≤◌, length, drop}
use Rattle.page.specs.Pages.{joined_all}
use Rattle.moves.specs.Moved.{latches_moved}
use Rattle.moves.proofs.changes.latches.Given as goal

abbrev pub invariant-loop-k : goal.invariant-loop-k
invariant-loop-k l =
    (l.k ≤ length l.names)
    × (joined_all l.told (latches_moved (l.from + l.k) l.before l.after (drop l.k l.names)) ≡ joined_all l.initial.told (latches_moved l.from l.before l.after l.names))
