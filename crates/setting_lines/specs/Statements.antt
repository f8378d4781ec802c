-- The statements of this room. The proofs give the record whole.
use Rattle.setting_lines.specs.ThereAndBack.{Answered, ReadBack, WrittenBack}
use Rattle.setting_lines.specs.NoLines.{NoLines}
use Rattle.setting_lines.specs.LcrBytes.{FortyBytes}
use Rattle.setting_lines.specs.SettingRefusals.{ReadRefusals, WriteRefusals, Nothing, Stays, Longest}
use Rattle.setting_lines.specs.Examples.{Examples}

pub record Statements : Type 0 where
  pub answered : Answered
  pub read_back : ReadBack
  pub written_back : WrittenBack
  pub no_lines : NoLines
  pub forty_bytes : FortyBytes
  pub read_refusals : ReadRefusals
  pub write_refusals : WriteRefusals
  pub nothing : Nothing
  pub stays : Stays
  pub longest : Longest
  pub examples : Examples
