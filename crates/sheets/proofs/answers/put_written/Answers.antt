use Rattle.sheets.specs.Texts.{written_text}
use Rattle.sheets.proofs.answers.put_written.Goals as goal

pub returns-in-Ok : goal.returns-in-Ok
unfolding written_text
returns-in-Ok c = rw c.in-Ok.is c.put_line.ensures

pub returns-in-Err : goal.returns-in-Err
unfolding written_text
returns-in-Err c = rw c.in-Err.is c.put_refusal.ensures
