-- All statements of this room hold.
use Rattle.timeline.specs.Statements.{Statements}
use Rattle.timeline.proofs.Watching.{shown_last, nothing_changed}
use Rattle.timeline.proofs.Names.{names_apart}
use Rattle.timeline.proofs.Pages.{nothing_cut}
use Rattle.timeline.proofs.Exemplified.{exemplified}

pub statements : Statements
statements =
    record {
      shown_last = shown_last;
      names_apart = names_apart;
      nothing_changed = nothing_changed;
      nothing_cut = nothing_cut;
      examples = exemplified;
    }
