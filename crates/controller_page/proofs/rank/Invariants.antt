use Rattle.std.proofs.Common.{◌≡◌, ◌≤◌}
use Rattle.controller_page.proofs.InOrder.{ranked_below}
use Rattle.controller_page.proofs.rank.Given as goal

abbrev pub invariant-loop-place : goal.invariant-loop-place
invariant-loop-place l = (l.place ≤ 8) × (l.piece ≡ ranked_below l.initial.piece l.first l.place)
