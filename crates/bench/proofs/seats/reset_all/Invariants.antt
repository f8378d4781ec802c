use Rattle.std.specs.Prelude.{◌≡◌}
use Rattle.bench.proofs.Resets.{reset_first}
use Rattle.bench.proofs.seats.reset_all.Given as goal

abbrev pub invariant-loop-seat : goal.invariant-loop-seat
invariant-loop-seat l = l.seat-items ≡ reset_first l.seat-index l.initial.seat-items
