-- All statements of this room hold.
use Rattle.answers.proofs.CameLaws.{came_fits}
use Rattle.answers.specs.Statements.{Statements}
use Rattle.answers.proofs.Exemplified.{exemplified}

pub statements : Statements
statements = record { examples = exemplified; none_cut = came_fits }
