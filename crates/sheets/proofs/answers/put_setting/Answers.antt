use Rattle.sheets.specs.Texts.{setting_text}
use Rattle.sheets.proofs.answers.put_setting.Goals as goal

pub returns-in-Ok : goal.returns-in-Ok
unfolding setting_text
returns-in-Ok c = rw c.in-Ok.is c.put_figures.ensures

pub returns-in-Err : goal.returns-in-Err
unfolding setting_text
returns-in-Err c = rw c.in-Err.is c.put_refusal.ensures
