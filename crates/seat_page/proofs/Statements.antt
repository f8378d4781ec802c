-- All statements of this room hold.
use Rattle.seat_page.specs.Statements.{Statements}
use Rattle.seat_page.proofs.Reading.{as_read}
use Rattle.seat_page.proofs.Short.{none_cut, on_terminal}
use Rattle.seat_page.proofs.Few.{whole}
use Rattle.seat_page.proofs.Idling.{power_up_idle, idle_as_at_power_up}
use Rattle.seat_page.proofs.Exemplified.{exemplified}

pub statements : Statements
statements =
    record {
      as_read = as_read;
      none_cut = none_cut;
      whole = whole;
      on_terminal = on_terminal;
      power_up_idle = power_up_idle;
      idle_as_at_power_up = idle_as_at_power_up;
      examples = exemplified;
    }
