use Rattle.std.proofs.Common.{arith, Ok, Err}
use Rattle.base.specs.Answers.{refusal_of}
use Rattle.base.proofs.GivenLaws.{some_number}
use Rattle.base.specs.Pick.{pick}
use Rattle.embed.specs.SettingLaws.{writes_past, written_short}
use Rattle.embed.proofs.settings.hailstoat_write_setting.Goals as goal

pub overflow_cast-length : goal.overflow_cast-length
overflow_cast-length c = record { fits = omega (arith, written_short _ _ _ _ _ (Ok c.in-Ok.length) c.in-Ok.ensures) }

pub returns-in-Ok : goal.returns-in-Ok
unfolding refusal_of pick
returns-in-Ok c =
    record {
      written = Ok c.in-Ok.length;
      writes = writes_past _ _ _ _ _ _ _ _ _ c.as_byte-2.ensures c.as_divisor.ensures c.as_byte.ensures c.in-Ok.ensures;
      told = c.word.ensures;
    }

pub returns-in-Err : goal.returns-in-Err
unfolding refusal_of pick
returns-in-Err c =
    record {
      written = Err c.in-Err.refusal;
      writes = writes_past _ _ _ _ _ _ _ _ _ c.as_byte-2.ensures c.as_divisor.ensures c.as_byte.ensures c.in-Err.ensures;
      told = rw (some_number c.in-Err.refusal) c.refused.ensures;
    }
