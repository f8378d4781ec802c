-- All statements of this room hold.
use Rattle.controller_page.specs.Statements.{Statements}
use Rattle.controller_page.proofs.Short.{none_cut, whole, on_terminal}
use Rattle.controller_page.proofs.Exemplified.{exemplified}

pub statements : Statements
statements = record { none_cut = none_cut; whole = whole; on_terminal = on_terminal; examples = exemplified }
