-- All statements of this room hold.
use Rattle.setting_lines.specs.Statements.{Statements}
use Rattle.setting_lines.proofs.LineLaws.{no_leading_zero, no_other_character, none_longer}
use Rattle.setting_lines.proofs.Returning.{read_back, written_back}
use Rattle.setting_lines.proofs.Forty.{forty_bytes}
use Rattle.setting_lines.proofs.Refusing.{read_refusals, write_refusals, nothing, stays, longest}
use Rattle.setting_lines.proofs.Exemplified.{answered, exemplified}

pub statements : Statements
statements =
    record {
      answered = answered;
      read_back = read_back;
      written_back = written_back;
      no_lines = record { leading = no_leading_zero; character = no_other_character; longer = none_longer };
      forty_bytes = forty_bytes;
      read_refusals = read_refusals;
      write_refusals = write_refusals;
      nothing = nothing;
      stays = stays;
      longest = longest;
      examples = exemplified;
    }
