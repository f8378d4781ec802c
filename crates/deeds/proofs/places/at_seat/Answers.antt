use Rattle.page.specs.PieceLaws.{with_append, with_none}
use Rattle.page.specs.Pieces.{with}
use Rattle.deeds.specs.Done.{seat_words}
use Rattle.deeds.proofs.places.at_seat.Goals as goal

pub returns : goal.returns
unfolding with seat_words
returns c = simp (c.decimal.ensures, c.text.ensures, with_append, with_none)
