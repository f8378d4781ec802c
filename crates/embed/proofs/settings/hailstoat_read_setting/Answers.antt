use Rattle.std.proofs.Common.{refl, Ok, Err}
use Rattle.base.specs.Answers.{refusal_of}
use Rattle.base.proofs.GivenLaws.{some_number}
use Rattle.base.specs.Pick.{pick}
use Rattle.embed.specs.SettingLaws.{reads_past}
use Rattle.embed.proofs.settings.hailstoat_read_setting.Goals as goal

pub returns-in-Ok : goal.returns-in-Ok
unfolding refusal_of pick
returns-in-Ok c =
    record {
      setting = Ok c.in-Ok.setting;
      reads = reads_past _ _ _ _ c.as_byte.ensures c.in-Ok.ensures;
      stored = refl;
      told = c.word.ensures;
    }

pub returns-in-Err : goal.returns-in-Err
unfolding refusal_of pick
returns-in-Err c =
    record {
      setting = Err c.in-Err.refusal;
      reads = reads_past _ _ _ _ c.as_byte.ensures c.in-Err.ensures;
      stored = refl;
      told = rw (some_number c.in-Err.refusal) c.refused.ensures;
    }
