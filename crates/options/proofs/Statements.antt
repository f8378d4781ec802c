-- All statements of this room hold.
use Rattle.options.specs.Statements.{Statements}
use Rattle.options.proofs.Numbers.{moments_read, moments_only}
use Rattle.options.proofs.Following.{options_read, not_understood, table_followed}
use Rattle.options.proofs.Made.{made_once, none_passed}
use Rattle.options.proofs.Exemplified.{exemplified}

pub statements : Statements
statements =
    record {
      moments_read = moments_read;
      moments_only = moments_only;
      options_read = options_read;
      not_understood = not_understood;
      table_followed = table_followed;
      made_once = made_once;
      none_passed = none_passed;
      examples = exemplified;
    }
