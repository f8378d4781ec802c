use Rattle.std.proofs.Common.{◌≡◌, true}
use Rattle.std.proofs.lemmas.List.Edits.{sets}
use Rattle.base.specs.Every.{every}
use Rattle.base.specs.ListLaws.{listed}
use Rattle.image.specs.Read.{seat_at, good_at}
use Rattle.image.proofs.reading.records_from.Given as goal

abbrev pub invariant-loop-k : goal.invariant-loop-k
invariant-loop-k l = (l.seats ≡ sets l.initial.seats 0 (listed l.k (seat_at l.p))) × (every l.k (good_at l.p) ≡ true)
