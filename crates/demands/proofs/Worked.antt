-- The worked example, by computation over the definitions.
use mathlib.Core.Path.{refl}
use Rattle.listing.specs.Run as listing-run
use Rattle.text.specs.Line as listing-line
use Rattle.demands.specs.Worked.{Worked}
use Rattle.demands.proofs.Opened.{laid_open}

pub worked : Worked
unfolding laid_open listing-run.records_of listing-run.listing listing-line.digits_within listing-line.decimal listing-line.capital listing-line.output_digit listing-line.line
worked = refl
