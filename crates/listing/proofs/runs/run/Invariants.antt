use Rattle.std.proofs.Common.{◌≡◌, ◌+◌}
use Rattle.listing.specs.Kept.{Stays}
use Rattle.listing.specs.Run.{records_of}
use Rattle.listing.proofs.Turn.{Turn}
use Rattle.listing.proofs.runs.run.Given as goal

abbrev pub invariant-loop-k : goal.invariant-loop-k
invariant-loop-k l =
    (l.records ≡ l.k) × Turn l.initial.bench l.n (records_of l.last l.input) l.initial.out l.bench l.out l.written l.k l.latest × Stays l.front.digits l.front.count (l.n + l.k)
