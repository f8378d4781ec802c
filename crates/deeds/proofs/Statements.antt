-- All statements of this room hold.
use Rattle.deeds.proofs.DeedLaws.{done_fits, cut_fits}
use Rattle.deeds.specs.Statements.{Statements}
use Rattle.deeds.proofs.Exemplified.{exemplified}

pub statements : Statements
statements = record { examples = exemplified; none_cut = record { done = done_fits; cut = cut_fits } }
