-- All statements of this room hold.
use Rattle.page.specs.Statements.{Statements}
use Rattle.page.specs.PieceLaws.{said_all}
use Rattle.page.specs.FitLaws.{fits_terminal}
use Rattle.page.proofs.Exemplified.{exemplified}

pub statements : Statements
statements = record { fits_terminal = fits_terminal; says_all = said_all; examples = exemplified }
