use Rattle.seat_image.specs.Read.{tallies_from}
use Rattle.seat_image.proofs.tallies.tallies_from.Goals as goal

pub returns : goal.returns
unfolding tallies_from
returns c = simp (← c.word_at-4.ensures, ← c.word_at-3.ensures, ← c.word_at-2.ensures, ← c.word_at.ensures)
