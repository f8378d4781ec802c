use Rattle.std.proofs.Common.{◌∙◌}
use Rattle.seat_image.specs.WordLaws.{word_le}
use Rattle.seat_image.specs.Words.{word_at}
use Rattle.seat_image.proofs.tallies.word_at.Goals as goal

pub returns : goal.returns
unfolding word_at
returns c = c.from_le_bytes.ensures ∙ word_le _ _ _ _
