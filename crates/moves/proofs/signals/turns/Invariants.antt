use Rattle.std.proofs.Common.{◌≡◌, ◌≤◌}
use Rattle.base.specs.ListLaws.{listed}
use Rattle.page.specs.Pages.{joined_all}
use Rattle.moves.specs.Moved.{line_turned}
use Rattle.moves.proofs.signals.turns.Given as goal

abbrev pub invariant-loop-n : goal.invariant-loop-n
invariant-loop-n l = (l.n ≤ 8) × (l.told ≡ joined_all l.initial.told (listed l.n (λ k. line_turned k l.before l.after l.on l.off)))
