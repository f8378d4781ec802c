-- All statements of this room hold.
use Rattle.names.specs.WordLaws.{refusal_fits, register_fits, iir_fits, lsr_fits, msr_fits, marks_fit_lem, levels_fit, lines_fit}
use Rattle.names.specs.Uncut.{NoneCut}
use Rattle.names.specs.Statements.{Statements}
use Rattle.names.proofs.Exemplified.{exemplified}
use Rattle.names.proofs.Differ.{refusals_differ, bytes_differ}

none_cut : NoneCut
none_cut = record {
  iir = iir_fits;
  lsr = lsr_fits;
  msr = msr_fits;
  refusal = refusal_fits;
  register = register_fits;
  marks = marks_fit_lem;
  levels = levels_fit;
  lines = lines_fit;
}

pub statements : Statements
statements = record { examples = exemplified; none_cut = none_cut; refusals_differ = refusals_differ; bytes_differ = bytes_differ }
