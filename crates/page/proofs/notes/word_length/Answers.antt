use Rattle.std.proofs.Common.{◌∙◌}
use Rattle.page.proofs.Words.{word_ends}
use Rattle.page.proofs.notes.word_length.Goals as goal

pub returns : goal.returns
returns c = c.unwrap_or.ensures ∙ rw c.blank.ensures (word_ends c.args.text.now)
