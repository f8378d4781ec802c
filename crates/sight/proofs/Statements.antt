-- All statements of this room hold.
use Rattle.sight.specs.Statements.{Statements}
use Rattle.sight.proofs.Seeing.{seen_as_read, seats_named, power_up_seen}

pub statements : Statements
statements = record { seen_as_read = seen_as_read; seats_named = seats_named; power_up_seen = power_up_seen }
